-- A form that is laid out at a place, by its parts; and the laws of the layout that follow.
use Rattle.std.specs.Prelude.{◌≡◌, ℕ, zero, suc, ◌+◌, ◌<◌, ◌≤◌, Bool, true, false, List, [], ◌∷◌, ◌++◌, Some, None, Option, ◌==◌, refl}
use Rattle.std.proofs.Common.{subst, ⊎_elim, arith}
use Rattle.std.proofs.lemmas.Bool.{eqb-true, eq-eqb, cases_lt, ltb-true, false≢true}
use Rattle.process.specs.declared.moves.Move.{Move}
use Rattle.formtable.specs.Layout.{form_at, past, past_in, past_with, or_past, at_right, moves_in, move_to, reaches}
use Rattle.formtable.specs.declared.record.Form.{Form}
use Rattle.formtable.specs.declared.record.Form.TheVariants.{End, Do, Tau, Or, Rec, Go}
use Rattle.formtable.specs.declared.record.Record.{Record}

-- the form at i is laid out, and j is the place after it
pub data At (rs : List Record) : ℕ → ℕ → Type 0 where
  at_end : {i : ℕ} → form_at rs i ≡ Some End → At rs i (suc i)
  at_do : {i a j : ℕ} → form_at rs i ≡ Some (Do a) → At rs (suc i) j → At rs i j
  at_tau : {i j : ℕ} → form_at rs i ≡ Some Tau → At rs (suc i) j → At rs i j
  at_or : {i r j : ℕ} → form_at rs i ≡ Some (Or r) → At rs (suc i) r → At rs r j → At rs i j
  at_rec : {i j : ℕ} → form_at rs i ≡ Some Rec → At rs (suc i) j → At rs i j
  at_go : {i k : ℕ} → form_at rs i ≡ Some (Go k) → At rs i (suc i)

-- each go names a rec around it
abbrev pub Bound : List Record → Type 0
Bound rs = (j k : ℕ) → form_at rs j ≡ Some (Go k) → (form_at rs k ≡ Some Rec) × (k < j) × ((p : ℕ) × (past rs k ≡ Some p) × (j < p))

pub some_inj : {a b : ℕ} → Some a ≡ Some b → a ≡ b
some_inj e = cc

pub none_some : {b : ℕ} → ◌≡◌ {A = Option ℕ} None (Some b) → ⊥
none_some {b} e = let z : ◌≡◌ {A = ℕ} 0 1 = cc in omega arith

pub reaches_over : (j : ℕ) (o : Option ℕ) → reaches j o ≡ true → (p : ℕ) × (o ≡ Some p) × (j < p)
reaches_over j None e = absurd (false≢true e)
reaches_over j (Some p) e = (p, refl, ltb-true j p e)

at_to : {rs : List Record} {i j k : ℕ} → j ≡ k → At rs i j → At rs i k
at_to {rs} {i} e d = subst (λ x. At rs i x) e d

module _ (rs : List Record) (next : ℕ → Option ℕ) (ih : (p j : ℕ) → next p ≡ Some j → At rs p j) (i j : ℕ) where
  at_or_past : (r : ℕ) (o : Option ℕ) → form_at rs i ≡ Some (Or r) → next (suc i) ≡ o → or_past next r o ≡ Some j → At rs i j
  at_or_past r None f q e = absurd (none_some e)
  at_or_past r (Some p) f q e = here (p == r) refl e
    where
      here : (b : Bool) → (p == r) ≡ b → at_right next r b ≡ Some j → At rs i j
      here true s e' = at_or f (at_to (eqb-true p r s) (ih (suc i) p q)) (ih r j e')
      here false s e' = absurd (none_some e')

  at_by : (f : Option Form) → form_at rs i ≡ f → past_with next i f ≡ Some j → At rs i j
  at_by (Some End) f e = at_to (some_inj e) (at_end f)
  at_by (Some (Do a)) f e = at_do f (ih (suc i) j e)
  at_by (Some Tau) f e = at_tau f (ih (suc i) j e)
  at_by (Some (Or r)) f e = at_or_past r (next (suc i)) f refl e
  at_by (Some Rec) f e = at_rec f (ih (suc i) j e)
  at_by (Some (Go k)) f e = at_to (some_inj e) (at_go f)
  at_by None f e = absurd (none_some e)

pub past_in_at : (n : ℕ) (rs : List Record) (i j : ℕ) → past_in n rs i ≡ Some j → At rs i j
past_in_at zero rs i j e = absurd (none_some e)
past_in_at (suc n) rs i j e = at_by rs (λ p. past_in n rs p) (λ p k. past_in_at n rs p k) i j (form_at rs i) refl e

pub at_longer : {rs : List Record} {i j : ℕ} → At rs i j → i < j
at_longer (at_end f) = omega arith
at_longer (at_do f d) = omega (arith, at_longer d)
at_longer (at_tau f d) = omega (arith, at_longer d)
at_longer (at_or f d e) = omega (arith, at_longer d, at_longer e)
at_longer (at_rec f d) = omega (arith, at_longer d)
at_longer (at_go f) = omega arith

-- with enough levels Past(i) is the place after
pub at_past_in : {rs : List Record} {i j : ℕ} → At rs i j → (n : ℕ) → j ≤ n + i → past_in n rs i ≡ Some j
at_past_in d zero h = absurd (omega (arith, at_longer d))
at_past_in (at_end f) (suc n) h = rw f
at_past_in (at_do f d) (suc n) h = rw f (at_past_in d n (omega arith))
at_past_in (at_tau f d) (suc n) h = rw f (at_past_in d n (omega arith))
at_past_in (at_or {r = r} f d e) (suc n) h = rw (f, at_past_in d n (omega (arith, at_longer e)), eq-eqb r r refl) (at_past_in e n (omega (arith, at_longer d)))
at_past_in (at_rec f d) (suc n) h = rw f (at_past_in d n (omega arith))
at_past_in (at_go f) (suc n) h = rw f

-- each place inside a form is the place of a form inside it
abbrev pub Inside : List Record → ℕ → ℕ → Type 0
Inside rs x j = (p : ℕ) × At rs x p × (p ≤ j)

here_or : {rs : List Record} {i j : ℕ} → At rs i j → (x : ℕ) → i ≤ x → (suc i ≤ x → Inside rs x j) → Inside rs x j
here_or {rs} {i} {j} d x l k =
    ⊎_elim
    (λ q. (j, subst (λ y. At rs y j) (let e : i ≡ x = omega arith in e) d, omega arith))
    k
    (cases_lt x (suc i))

wider : {rs : List Record} {x r j : ℕ} → r ≤ j → Inside rs x r → Inside rs x j
wider h s = (s.0, s.1, omega (arith, s.2))

pub at_inside : {rs : List Record} {i j : ℕ} → At rs i j → (x : ℕ) → i ≤ x → x < j → Inside rs x j
at_inside (at_end f) x l h = here_or (at_end f) x l (λ m. absurd (omega arith))
at_inside (at_do f d) x l h = here_or (at_do f d) x l (λ m. at_inside d x m h)
at_inside (at_tau f d) x l h = here_or (at_tau f d) x l (λ m. at_inside d x m h)
at_inside {rs} {j = j} (at_or {r = r} f d e) x l h =
    here_or (at_or f d e) x l
    (λ m. ⊎_elim {C = Inside rs x j} (λ q. wider (omega (arith, at_longer e)) (at_inside d x m q)) (λ q. at_inside e x q h) (cases_lt x r))
at_inside (at_rec f d) x l h = here_or (at_rec f d) x l (λ m. at_inside d x m h)
at_inside (at_go f) x l h = here_or (at_go f) x l (λ m. absurd (omega arith))

-- the moves of a laid out form
abbrev pub moves_of : {rs : List Record} {i j : ℕ} → At rs i j → List Move
moves_of (at_end f) = []
moves_of (at_do {i = i} {a = a} f d) = move_to a (suc i) ∷ []
moves_of (at_tau {i = i} f d) = move_to 0 (suc i) ∷ []
moves_of (at_or f d e) = moves_of d ++ moves_of e
moves_of (at_rec {i = i} f d) = move_to 0 (suc i) ∷ []
moves_of (at_go {k = k} f) = move_to 0 (suc k) ∷ []

pub at_moves_in : {rs : List Record} {i j : ℕ} (d : At rs i j) (n : ℕ) → j ≤ n + i → moves_in n rs i ≡ moves_of d
at_moves_in d zero h = absurd (omega (arith, at_longer d))
at_moves_in (at_end f) (suc n) h = rw f
at_moves_in (at_do f d) (suc n) h = rw f
at_moves_in (at_tau f d) (suc n) h = rw f
at_moves_in (at_or f d e) (suc n) h = rw (f, at_moves_in d n (omega (arith, at_longer e)), at_moves_in e n (omega (arith, at_longer d)))
at_moves_in (at_rec f d) (suc n) h = rw f
at_moves_in (at_go f) (suc n) h = rw f
