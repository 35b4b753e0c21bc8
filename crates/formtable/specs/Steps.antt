-- Past and the moves of a place by those of the places of its inner forms.
use Rattle.std.specs.Prelude.{◌≡◌, ℕ, zero, suc, ◌+◌, ◌<◌, ◌≤◌, Bool, true, false, ◌⊎◌, List, [], ◌∷◌, ◌++◌, length, Some, None, Option, ◌==◌, ◌≢◌, slice_index_or, refl}
use Rattle.std.proofs.Common.{sym, ap, ap₂, ◌∙◌, inl, inr, ⊎_elim, zero-add, suc-add, add-one, arith, length-append}
use Rattle.std.proofs.lemmas.Bool.{eqb-true, eq-eqb, ne_eqb, cases_lt}
use Rattle.std.proofs.lemmas.Option.{none-some, slice_get-get_or, slice_get_past}
use Rattle.std.specs.List.{slice_get}
use Rattle.process.specs.declared.moves.Move.{Move}
use Rattle.formtable.specs.Kinds.{kind_of}
use Rattle.formtable.specs.Layout.{form_at, past, past_in, past_with, or_past, at_right, moves, moves_in, moves_by, LaidOut}
use Rattle.formtable.specs.declared.record.Form.{Form}
use Rattle.formtable.specs.declared.record.Form.TheVariants.{End, Do, Tau, Or, Rec, Go}
use Rattle.formtable.specs.declared.record.Record.{Record}
use Rattle.formtable.specs.Laid.{At, at_end, at_do, at_tau, at_or, at_rec, at_go, at_longer, at_past_in, past_in_at, at_inside, Inside, moves_of, at_moves_in, none_some}

-- what stands at a place, by the record there
pub form_at_read : (rs : List Record) (i : ℕ) (d : Record) → i < length rs → kind_of (slice_index_or rs i d).kind (slice_index_or rs i d).argument ≡ form_at rs i
form_at_read rs i d h = rw (slice_get-get_or rs i d h)

pub form_at_past : (rs : List Record) (i : ℕ) → length rs ≤ i → form_at rs i ≡ None
form_at_past rs i h = rw (slice_get_past rs i h)

pub known_within : (rs : List Record) (i : ℕ) (f : Form) → form_at rs i ≡ Some f → i < length rs
known_within rs i f e =
    ⊎_elim {C = i < length rs} (λ h. h) (λ h. absurd (none-some f (sym (form_at_past rs i h) ∙ e))) (cases_lt i (length rs))

pub at_within : {rs : List Record} {i j : ℕ} → At rs i j → j ≤ length rs
at_within {rs} {i} (at_end f) = known_within rs i End f
at_within (at_do f d) = at_within d
at_within (at_tau f d) = at_within d
at_within (at_or f d e) = at_within e
at_within (at_rec f d) = at_within d
at_within {rs} {i} (at_go {k = k} f) = known_within rs i (Go k) f

pub past_above : (rs : List Record) (i p : ℕ) → past rs i ≡ Some p → i < p
past_above rs i p e = at_longer (past_in_at (length rs) rs i p e)

-- any number of levels that reaches the end will do
module _ (rs : List Record) where
  past_some : (n m i j : ℕ) → length rs ≤ m + i → past_in n rs i ≡ Some j → past_in m rs i ≡ Some j
  past_some n m i j h e = let d = past_in_at n rs i j e in at_past_in d m (omega (arith, at_within d))

  past_agree : (n m i : ℕ) → length rs ≤ n + i → length rs ≤ m + i → past_in n rs i ≡ past_in m rs i
  past_agree n m i h k = here (past_in n rs i) refl (past_in m rs i) refl
    where
      here : (o : Option ℕ) → past_in n rs i ≡ o → (q : Option ℕ) → past_in m rs i ≡ q → o ≡ q
      here (Some p) a q b = sym (past_some n m i p k a) ∙ b
      here None a None b = refl
      here None a (Some p) b = absurd (none_some (sym a ∙ past_some m n i p h b))

  past_or : (n i r : ℕ) → length rs ≤ suc n + i → (o : Option ℕ) → past_in n rs (suc i) ≡ o → or_past (λ p. past_in n rs p) r o ≡ or_past (λ p. past rs p) r o
  past_or n i r h None e = refl
  past_or n i r h (Some p) e = here (p == r) refl
    where
      here : (b : Bool) → (p == r) ≡ b → at_right (λ p. past_in n rs p) r b ≡ at_right (λ p. past rs p) r b
      here true q = past_agree n (length rs) r (omega (arith, at_longer (past_in_at n rs (suc i) p e), eqb-true p r q)) (omega arith)
      here false q = refl

  past_by : (n i : ℕ) → length rs ≤ suc n + i → (f : Option Form) → past_with (λ p. past_in n rs p) i f ≡ past_with (λ p. past rs p) i f
  past_by n i h (Some End) = refl
  past_by n i h (Some (Do a)) = past_agree n (length rs) (suc i) (omega arith) (omega arith)
  past_by n i h (Some Tau) = past_agree n (length rs) (suc i) (omega arith) (omega arith)
  past_by n i h (Some (Or r)) = past_or n i r h (past_in n rs (suc i)) refl ∙ ap (or_past (λ p. past rs p) r) (past_agree n (length rs) (suc i) (omega arith) (omega arith))
  past_by n i h (Some Rec) = past_agree n (length rs) (suc i) (omega arith) (omega arith)
  past_by n i h (Some (Go k)) = refl
  past_by n i h None = refl

  -- Past(i) by the record at i
  pub past_step : (i : ℕ) → i < length rs → past rs i ≡ past_with (λ p. past rs p) i (form_at rs i)
  past_step i h = here (length rs) refl
    where
      here : (n : ℕ) → length rs ≡ n → past_in n rs i ≡ past_with (λ p. past rs p) i (form_at rs i)
      here zero e = absurd (omega arith)
      here (suc n) e = past_by n i (omega arith) (form_at rs i)

  pub past_outside : (i : ℕ) → length rs ≤ i → past rs i ≡ None
  past_outside i h = here (length rs)
    where
      here : (n : ℕ) → past_in n rs i ≡ None
      here zero = refl
      here (suc n) = rw (form_at_past rs i h)

-- Past(i) by what stands at i
pub past_is : (rs : List Record) (i : ℕ) (f : Option Form) → f ≡ form_at rs i → past rs i ≡ past_with (λ p. past rs p) i f
past_is rs i f e =
    ⊎_elim {C = past rs i ≡ past_with (λ p. past rs p) i f}
    (λ h. past_step rs i h ∙ ap (past_with (λ p. past rs p) i) (sym e))
    (λ h. past_outside rs i h ∙ ap (past_with (λ p. past rs p) i) (sym (e ∙ form_at_past rs i h)))
    (cases_lt i (length rs))

-- no moves where no record stands
pub moves_outside : (rs : List Record) (i : ℕ) → length rs ≤ i → moves rs i ≡ []
moves_outside rs i h = here (length rs)
  where
    here : (n : ℕ) → moves_in n rs i ≡ []
    here zero = refl
    here (suc n) = rw (form_at_past rs i h)

-- the moves, where the table is laid out
module _ (rs : List Record) (laid : LaidOut rs) where
  pub inside : (i : ℕ) → i < length rs → Inside rs i (length rs)
  inside i h = at_inside (past_in_at (length rs) rs zero (length rs) laid) i (omega arith) h

  pub moves_there : {i j : ℕ} (d : At rs i j) → moves rs i ≡ moves_of d
  moves_there {i} {j} d = at_moves_in d (length rs) (omega (arith, at_within d))

  step_at : {i j : ℕ} (d : At rs i j) → moves_of d ≡ moves_by (λ p. moves rs p) i (form_at rs i)
  step_at (at_end f) = rw f
  step_at (at_do f d) = rw f
  step_at (at_tau f d) = rw f
  step_at (at_or f d e) = rw f (ap₂ ◌++◌ (sym (moves_there d)) (sym (moves_there e)))
  step_at (at_rec f d) = rw f
  step_at (at_go f) = rw f

  pub moves_step : (i : ℕ) → i < length rs → moves rs i ≡ moves_by (λ p. moves rs p) i (form_at rs i)
  moves_step i h = let s = inside i h in moves_there s.1 ∙ step_at s.1

  few_at : {i j : ℕ} (d : At rs i j) → length (moves_of d) + i ≤ j
  few_at (at_end f) = omega arith
  few_at (at_do f d) = omega (arith, at_longer d)
  few_at (at_tau f d) = omega (arith, at_longer d)
  few_at (at_or f d e) = omega (arith, length-append (moves_of d) (moves_of e), few_at d, few_at e)
  few_at (at_rec f d) = omega (arith, at_longer d)
  few_at (at_go f) = omega arith

  pub moves_few : (i : ℕ) → i < length rs → length (moves rs i) + i ≤ length rs
  moves_few i h = let s = inside i h in rw (moves_there s.1) (omega (arith, few_at s.1, s.2))

  or_at : {i j : ℕ} (r : ℕ) → form_at rs i ≡ Some (Or r) → At rs i j → (suc i < r) × (r < length rs)
  or_at r q (at_end f) = let z : ◌≡◌ {A = ℕ} 0 1 = cc in absurd (omega arith)
  or_at r q (at_do f d) = let z : ◌≡◌ {A = ℕ} 0 1 = cc in absurd (omega arith)
  or_at r q (at_tau f d) = let z : ◌≡◌ {A = ℕ} 0 1 = cc in absurd (omega arith)
  or_at r q (at_or {r = r'} f d e) = let same : r' ≡ r = cc in omega (arith, at_longer d, at_longer e, at_within e)
  or_at r q (at_rec f d) = let z : ◌≡◌ {A = ℕ} 0 1 = cc in absurd (omega arith)
  or_at r q (at_go f) = let z : ◌≡◌ {A = ℕ} 0 1 = cc in absurd (omega arith)

  pub or_within : (i r : ℕ) → i < length rs → form_at rs i ≡ Some (Or r) → (suc i < r) × (r < length rs)
  or_within i r h q = or_at r q (inside i h).1

  -- the moves of i by what stands there
  pub moves_is : (i : ℕ) (f : Option Form) → f ≡ form_at rs i → moves rs i ≡ moves_by (λ p. moves rs p) i f
  moves_is i f e =
      ⊎_elim {C = moves rs i ≡ moves_by (λ p. moves rs p) i f}
      (λ h. moves_step i h ∙ ap (moves_by (λ p. moves rs p) i) (sym e))
      (λ h. moves_outside rs i h ∙ ap (moves_by (λ p. moves rs p) i) (sym (e ∙ form_at_past rs i h)))
      (cases_lt i (length rs))

pub nth_left : (ms ns : List Move) (k : ℕ) → k < length ms → slice_get (ms ++ ns) k ≡ slice_get ms k
nth_left [] ns k h = absurd (omega arith)
nth_left (m ∷ ms) ns zero h = refl
nth_left (m ∷ ms) ns (suc k) h = nth_left ms ns k (omega arith)

pub nth_right : (ms ns : List Move) (k : ℕ) → slice_get (ms ++ ns) (length ms + k) ≡ slice_get ns k
nth_right [] ns k = rw zero-add
nth_right (m ∷ ms) ns k = rw suc-add (nth_right ms ns k)

-- the same over arms that several kinds share
module _ (rs : List Record) (i : ℕ) (f : Form) (is : Some f ≡ form_at rs i) where
  pub past_leaf : (f ≡ End) ⊎ ((k : ℕ) × (f ≡ Go k)) → past rs i ≡ Some (suc i)
  past_leaf (inl e) = past_is rs i (Some End) (ap Some (sym e) ∙ is)
  past_leaf (inr e) = past_is rs i (Some (Go e.0)) (ap Some (sym e.1) ∙ is)

  pub past_inner : ((a : ℕ) × (f ≡ Do a)) ⊎ ((f ≡ Tau) ⊎ (f ≡ Rec)) → past rs i ≡ past rs (suc i)
  past_inner (inl e) = past_is rs i (Some (Do e.0)) (ap Some (sym e.1) ∙ is)
  past_inner (inr (inl e)) = past_is rs i (Some Tau) (ap Some (sym e) ∙ is)
  past_inner (inr (inr e)) = past_is rs i (Some Rec) (ap Some (sym e) ∙ is)

-- the moves of a form that is no or
module _ (rs : List Record) (i : ℕ) (f : Option Form) (is : f ≡ form_at rs i) (laid : LaidOut rs) where
  pub moves_none : (f ≡ Some End) ⊎ (f ≡ None) → moves rs i ≡ []
  moves_none (inl e) = moves_is rs laid i (Some End) (sym e ∙ is)
  moves_none (inr e) = moves_is rs laid i None (sym e ∙ is)

  pub moves_one : ((a : ℕ) × (f ≡ Some (Do a))) ⊎ ((f ≡ Some Tau) ⊎ ((f ≡ Some Rec) ⊎ ((k : ℕ) × (f ≡ Some (Go k))))) → length (moves rs i) ≡ 1
  moves_one (inl e) = ap length (moves_is rs laid i (Some (Do e.0)) (sym e.1 ∙ is))
  moves_one (inr (inl e)) = ap length (moves_is rs laid i (Some Tau) (sym e ∙ is))
  moves_one (inr (inr (inl e))) = ap length (moves_is rs laid i (Some Rec) (sym e ∙ is))
  moves_one (inr (inr (inr e))) = ap length (moves_is rs laid i (Some (Go e.0)) (sym e.1 ∙ is))

  -- a form that is no or has its own move at most
  own_moves : (g : Option Form) → ((r : ℕ) → g ≢ Some (Or r)) → moves_by (λ p. moves rs p) i g ≡ moves_by (λ p. []) i g
  own_moves (Some End) ne = refl
  own_moves (Some (Do a)) ne = refl
  own_moves (Some Tau) ne = refl
  own_moves (Some (Or r)) ne = absurd (ne r refl)
  own_moves (Some Rec) ne = refl
  own_moves (Some (Go k)) ne = refl
  own_moves None ne = refl

  pub moves_own : ((r : ℕ) → f ≢ Some (Or r)) → moves rs i ≡ moves_by (λ p. []) i f
  moves_own ne = moves_is rs laid i f is ∙ own_moves f ne

-- and no second one
pub own_single : (i k : ℕ) (f : Option Form) → (k ≢ 0) → slice_get (moves_by (λ p. []) i f) k ≡ None
own_single i zero f h = absurd (h refl)
own_single i (suc k) (Some End) h = refl
own_single i (suc k) (Some (Do a)) h = refl
own_single i (suc k) (Some Tau) h = refl
own_single i (suc k) (Some (Or r)) h = refl
own_single i (suc k) (Some Rec) h = refl
own_single i (suc k) (Some (Go j)) h = refl
own_single i (suc k) None h = refl

pub past_left_fails : (rs : List Record) (i r : ℕ) → Some (Or r) ≡ form_at rs i → past rs (suc i) ≡ None → past rs i ≡ None
past_left_fails rs i r is e = past_is rs i (Some (Or r)) is ∙ ap (or_past (λ p. past rs p) r) e

pub past_left_other : (rs : List Record) (i r p : ℕ) → Some (Or r) ≡ form_at rs i → past rs (suc i) ≡ Some p → (p ≢ r) → past rs i ≡ None
past_left_other rs i r p is e ne = past_is rs i (Some (Or r)) is ∙ ap (or_past (λ p. past rs p) r) e ∙ ap (at_right (λ p. past rs p) r) (ne_eqb p r ne)

pub past_left_meets : (rs : List Record) (i r p : ℕ) → Some (Or r) ≡ form_at rs i → past rs (suc i) ≡ Some p → p ≡ r → past rs i ≡ past rs p
past_left_meets rs i r p is e same =
    past_is rs i (Some (Or r)) is ∙ ap (or_past (λ p. past rs p) r) e ∙ ap (at_right (λ p. past rs p) r) (eq-eqb p r same) ∙ ap (past rs) (sym same)

-- an or at i, as the code has its places
pub record Both (rs : List Record) (i r : ℕ) : Type 0 where
  pub left_within : i + 1 < length rs
  pub above : i < r
  pub right_within : r < length rs
  pub moves_are : moves rs i ≡ moves rs (i + 1) ++ moves rs r
  pub long : length (moves rs i) ≡ length (moves rs (i + 1)) + length (moves rs r)
  pub few : length (moves rs i) ≤ length rs

pub both : (rs : List Record) (i r : ℕ) → LaidOut rs → Some (Or r) ≡ form_at rs i → Both rs i r
both rs i r laid is =
    let h = known_within rs i (Or r) (sym is) in
    let w = or_within rs laid i r h (sym is) in
    let m : moves rs i ≡ moves rs (i + 1) ++ moves rs r = rw add-one (moves_is rs laid i (Some (Or r)) is) in
    record {
      left_within = omega (arith, w);
      above = omega (arith, w);
      right_within = w.1;
      moves_are = m;
      long = ap length m ∙ length-append (moves rs (i + 1)) (moves rs r);
      few = omega (arith, moves_few rs laid i h);
    }
