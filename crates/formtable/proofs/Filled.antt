-- The term of a place, with every recursion before it put in: those that are not around it change nothing.
use Rattle.std.proofs.Common.{Option, ◌≡◌, ℕ, zero, suc, ◌+◌, ◌-◌, ◌<◌, ◌≤◌, Bool, true, false, cond, List, length, Some, sym, refl, ap, ◌∙◌, subst, ap₂, inl, inr, ⊎_elim, add-zero, add-suc, arith}
use Rattle.std.proofs.lemmas.Bool.{eq-eqb, ne_eqb, cases_lt, lt-ltb, true≢false}
use Rattle.formtable.specs.Kinds.{is_rec}
use Rattle.formtable.specs.Layout.{form_at, past, LaidOut}
use Rattle.formtable.specs.Places.{subterm, around, enclosed, term}
use Rattle.formtable.specs.Terms.{Term, nil, prefix, sum, var, recur, put, Free, Closed, Guarded}
use Rattle.formtable.specs.declared.record.Form.{Form}
use Rattle.formtable.specs.declared.record.Form.TheVariants.{Do, Tau, Or, Rec}
use Rattle.formtable.specs.declared.record.Record.{Record}
use Rattle.formtable.specs.Laid.{At, at_end, at_do, at_tau, at_or, at_rec, at_go, at_longer, at_past_in, at_inside, some_inj, Bound}
use Rattle.formtable.proofs.Put.{put_none, put_free, put_guarded}
use Rattle.formtable.specs.Steps.{at_within, inside}
use Rattle.formtable.proofs.Subterms.{sub_of, sub_is}

-- t with every recursion before n put in for its variable
abbrev pub filled : List Record → ℕ → Term → Term
filled rs zero t = t
filled rs (suc k) t = put k (filled rs k (subterm rs k)) (filled rs k t)

-- the term of a place, by all the recursions before it
abbrev pub full : List Record → ℕ → Term
full rs i = filled rs i (subterm rs i)

module _ (rs : List Record) where
  pub filled_nil : (n : ℕ) → filled rs n nil ≡ nil
  filled_nil zero = refl
  filled_nil (suc n) = rw (filled_nil n)

  pub filled_prefix : (n a : ℕ) (t : Term) → filled rs n (prefix a t) ≡ prefix a (filled rs n t)
  filled_prefix zero a t = refl
  filled_prefix (suc n) a t = rw (filled_prefix n a t)

  pub filled_sum : (n : ℕ) (t u : Term) → filled rs n (sum t u) ≡ sum (filled rs n t) (filled rs n u)
  filled_sum zero t u = refl
  filled_sum (suc n) t u = rw (filled_sum n t u)

  pub filled_recur : (n x : ℕ) (t : Term) → n ≤ x → filled rs n (recur x t) ≡ recur x (filled rs n t)
  filled_recur zero x t h = refl
  filled_recur (suc n) x t h = rw (filled_recur n x t (omega arith), ne_eqb n x (omega arith))

  filled_var : (n x : ℕ) → n ≤ x → filled rs n (var x) ≡ var x
  filled_var zero x h = refl
  filled_var (suc n) x h = rw (filled_var n x (omega arith), ne_eqb n x (omega arith))

  pub full_is : {i j : ℕ} (d : At rs i j) → full rs i ≡ filled rs i (sub_of d)
  full_is {i} d = ap (filled rs i) (sub_is d)

-- a rec at x encloses i
record Encloses (rs : List Record) (x i : ℕ) : Type 0 where
  pub form_is_rec : form_at rs x ≡ Some Rec
  pub before : x < i
  pub over : (p : ℕ) → past rs x ≡ Some p → i < p

-- the place of a rec is that of no other form
pub not_rec : (rs : List Record) (x i : ℕ) (f : Option Form) → form_at rs x ≡ Some Rec → form_at rs i ≡ f → is_rec f ≡ false → x ≡ i → ⊥
not_rec rs x i f a b c e = true≢false (ap is_rec (sym a) ∙ ap (λ (y : ℕ). is_rec (form_at rs y)) e ∙ ap is_rec b ∙ c)

-- what encloses the first inner form at i + 1, and stands elsewhere than i, encloses i
outer : (rs : List Record) (x i : ℕ) → Encloses rs x (suc i) → (x ≡ i → ⊥) → Encloses rs x i
outer rs x i a ne = record { form_is_rec = a.form_is_rec; before = omega (arith, a.before); over = λ p e. omega (arith, a.over p e) }

-- and so does what encloses the right-hand form of an or at i
outer_right : (rs : List Record) (x i r : ℕ) → At rs (suc i) r → Encloses rs x r → (x ≡ i → ⊥) → Encloses rs x i
outer_right rs x i r d a ne =
    record {
      form_is_rec = a.form_is_rec;
      before = ⊎_elim {C = x < i} (λ q. omega arith) (λ q. absurd (left q)) (cases_lt x (suc i));
      over = λ p e. omega (arith, a.over p e, at_longer d);
    }
  where
    left : suc i ≤ x → ⊥
    left q =
        let s = at_inside d x q a.before in
        omega (arith, s.2, a.over s.0 (at_past_in s.1 (length rs) (omega (arith, s.2, at_within d))))

module _ (rs : List Record) (laid : LaidOut rs) (bound : Bound rs) where
  -- a variable that is free in the form at i is that of a rec around it
  free_encloses : {i j : ℕ} (d : At rs i j) (x : ℕ) → Free x (sub_of d) → Encloses rs x i
  free_encloses (at_end f) x v = absurd v
  free_encloses (at_do {i = i} {a = a} f d) x v = let b = free_encloses d x v in outer rs x i b (not_rec rs x i (Some (Do a)) b.form_is_rec f refl)
  free_encloses (at_tau {i = i} f d) x v = let b = free_encloses d x v in outer rs x i b (not_rec rs x i (Some Tau) b.form_is_rec f refl)
  free_encloses (at_or {i = i} {r = r} f d e) x (inl v) = let b = free_encloses d x v in outer rs x i b (not_rec rs x i (Some (Or r)) b.form_is_rec f refl)
  free_encloses (at_or {i = i} {r = r} f d e) x (inr v) = let b = free_encloses e x v in outer_right rs x i r d b (not_rec rs x i (Some (Or r)) b.form_is_rec f refl)
  free_encloses (at_rec {i = i} f d) x v = outer rs x i (free_encloses d x v.1) v.0
  free_encloses (at_go {i = i} {k = k} f) x v =
      let b = bound i k f in
      subst (λ (y : ℕ). Encloses rs y i) (sym v) (record { form_is_rec = b.0; before = b.1; over = λ p e. omega (arith, b.2.2, some_inj (sym b.2.1 ∙ e)) })

  free_place : (i : ℕ) → i < length rs → (x : ℕ) → Free x (subterm rs i) → Encloses rs x i
  free_place i h x v = let s = inside rs laid i h in free_encloses s.1 x (subst (Free x) (sub_is s.1) v)

  -- what is free after every recursion before n is put in
  filled_free : (n : ℕ) → n ≤ length rs → (x : ℕ) (t : Term) → Free x (filled rs n t) → Free x t × (n ≤ x)
  filled_free zero h x t v = (v, omega arith)
  filled_free (suc n) h x t v =
      ⊎_elim {C = Free x t × (suc n ≤ x)}
      (λ s. let b = filled_free n (omega arith) x t s.0 in (b.0, omega (arith, b.1, s.1)))
      (λ s. let b = filled_free n (omega arith) x (subterm rs n) s in absurd (omega (arith, b.1, (free_place n h x b.0).before)))
      (put_free x n (full rs n) (filled rs n t) v)

  -- a recursion whose variable is not free may be left out
  filled_skip : (n : ℕ) → n < length rs → (t : Term) → (Free n t → ⊥) → filled rs (suc n) t ≡ filled rs n t
  filled_skip n h t ne = put_none n (full rs n) (filled rs n t) (λ v. ne (filled_free n (omega arith) n t v).0)

  filled_skips : (m n : ℕ) → m + n ≤ length rs → (t : Term) → ((x : ℕ) → m ≤ x → Free x t → ⊥) → filled rs (m + n) t ≡ filled rs m t
  filled_skips m zero h t ne = rw add-zero
  filled_skips m (suc n) h t ne =
      rw add-suc (filled_skip (m + n) (omega arith) t (ne (m + n) (omega arith)) ∙ filled_skips m n (omega arith) t ne)

  full_closed : (i : ℕ) → i < length rs → Closed (full rs i)
  full_closed i h x v = let b = filled_free i (omega arith) x (subterm rs i) v in omega (arith, b.1, (free_place i h x b.0).before)

  -- a variable becomes the term of its rec
  filled_at : (k n : ℕ) → suc k + n ≤ length rs → filled rs (suc k + n) (var k) ≡ full rs k
  filled_at k zero h = rw (add-zero, filled_var rs k k (omega arith), eq-eqb k k refl)
  filled_at k (suc n) h = rw (add-suc, filled_at k n (omega arith)) (put_none (suc k + n) (full rs (suc k + n)) (full rs k) (full_closed k (omega arith) (suc k + n)))

  pub filled_var_at : (k i : ℕ) → k < i → i ≤ length rs → filled rs i (var k) ≡ full rs k
  filled_var_at k i h l =
      let e : suc k + (i - suc k) ≡ i = omega arith in
      subst (λ (m : ℕ). filled rs m (var k) ≡ full rs k) e (filled_at k (i - suc k) (omega arith))

  -- the first inner form of a form that is no rec
  pub filled_inner : {i j : ℕ} (f : Option Form) → form_at rs i ≡ f → is_rec f ≡ false → (d : At rs (suc i) j) → filled rs (suc i) (sub_of d) ≡ filled rs i (sub_of d)
  filled_inner {i} f q r d = filled_skip i (omega (arith, at_longer d, at_within d)) (sub_of d) (λ v. not_rec rs i i f (free_encloses d i v).form_is_rec q r refl)

  -- the right-hand form of an or
  pub filled_right : {i r j : ℕ} → form_at rs i ≡ Some (Or r) → At rs (suc i) r → (e : At rs r j) → filled rs r (sub_of e) ≡ filled rs i (sub_of e)
  filled_right {i} {r} {j} q d e =
      let l : suc i < r = at_longer d in
      let same : i + (r - i) ≡ r = omega arith in
      subst (λ (m : ℕ). filled rs m (sub_of e) ≡ filled rs i (sub_of e)) same
      (filled_skips i (r - i) (omega (arith, at_longer e, at_within e)) (sub_of e) apart)
    where
      apart : (x : ℕ) → i ≤ x → Free x (sub_of e) → ⊥
      apart x lo v =
          let b = free_encloses e x v in
          omega (arith, (outer_right rs x i r d b (not_rec rs x i (Some (Or r)) b.form_is_rec q refl)).before)

  encloses_around : (x i : ℕ) → i < length rs → Encloses rs x i → around rs x i ≡ true
  encloses_around x i h a =
      let s = inside rs laid x (omega (arith, a.before)) in
      let e = at_past_in s.1 (length rs) (omega (arith, s.2)) in
      rw (a.form_is_rec, e) (lt-ltb i s.0 (a.over s.0 e))

  -- the recursions that are not around may be put in too
  enclosed_filled : (n i : ℕ) → n ≤ i → i < length rs → enclosed rs i n (subterm rs i) ≡ filled rs n (subterm rs i)
  enclosed_filled zero i l h = refl
  enclosed_filled (suc n) i l h =
      here (around rs n i) refl (enclosed_filled n n (omega arith) (omega arith)) (enclosed_filled n i (omega arith) h)
    where
      here : (b : Bool) → around rs n i ≡ b → enclosed rs n n (subterm rs n) ≡ full rs n → enclosed rs i n (subterm rs i) ≡ filled rs n (subterm rs i)
          → cond b (put n (enclosed rs n n (subterm rs n)) (enclosed rs i n (subterm rs i))) (enclosed rs i n (subterm rs i)) ≡ filled rs (suc n) (subterm rs i)
      here true e p q = ap₂ (put n) p q
      here false e p q = q ∙ sym (filled_skip n (omega arith) (subterm rs i) (λ v. true≢false (sym (encloses_around n i h (free_place i h n v)) ∙ e)))

  pub term_full : (i : ℕ) → i < length rs → term rs i ≡ full rs i
  term_full i h = enclosed_filled i i (omega arith) h

  pub term_closed : (i : ℕ) → i < length rs → Closed (term rs i)
  term_closed i h x v = full_closed i h x (subst (Free x) (term_full i h) v)

  filled_guarded : ((i : ℕ) → i < length rs → Guarded (subterm rs i)) → (n : ℕ) → n ≤ length rs → (t : Term) → Guarded t → Guarded (filled rs n t)
  filled_guarded k zero h t g = g
  filled_guarded k (suc n) h t g =
      put_guarded n (full rs n) (filled rs n t) (full_closed n h) (filled_guarded k n (omega arith) (subterm rs n) (k n h)) (filled_guarded k n (omega arith) t g)

  -- the term of a place is guarded where all subterms are
  pub term_guarded : ((i : ℕ) → i < length rs → Guarded (subterm rs i)) → (i : ℕ) → i < length rs → Guarded (term rs i)
  term_guarded k i h = rw (term_full i h) (filled_guarded k i (omega arith) (subterm rs i) (k i h))
