-- What a table has that passes the tests of vetting.
use Rattle.std.specs.Prelude.{◌≡◌, ℕ, zero, ◌<◌, ◌≤◌, Bool, true, false, ◌&&◌, ◌⊎◌, List, length, Some, None, Ok, Err, Option, Result, ◌≢◌, nat_le, nat_lt, refl}
use Rattle.std.proofs.Common.{sym, ap, ◌∙◌, inl, inr, ⊎_elim, arith}
use Rattle.std.proofs.lemmas.Bool.{and_parts, and_from, cases_lt, eqb-true, le-leb, leb-true, lt-ltb, ltb-true, false≢true, true≢false}
use Rattle.formtable.specs.Kinds.{is_rec}
use Rattle.formtable.specs.Layout.{form_at, past, reaches, LaidOut}
use Rattle.formtable.specs.Vet.{vetted, verdict, unless, fits, all_allowed, laid_out, all_bound, all_guarded, is_at, bound_by}
use Rattle.formtable.specs.declared.record.Form.{Form}
use Rattle.formtable.specs.declared.record.Form.TheVariants.{End, Do, Tau, Or, Rec, Go}
use Rattle.formtable.specs.declared.record.Record.{Record}
use Rattle.formtable.specs.Laid.{Bound, reaches_over}
use Rattle.formtable.specs.Steps.{known_within, Both, both}
use Rattle.formtable.specs.Loops.{each_at}

pub is_at_some : (n : ℕ) (o : Option ℕ) → is_at n o ≡ true → o ≡ Some n
is_at_some n None e = absurd (false≢true e)
is_at_some n (Some p) e = ap Some (eqb-true p n e)

form_is_rec : (f : Option Form) → is_rec f ≡ true → f ≡ Some Rec
form_is_rec (Some End) e = absurd (false≢true e)
form_is_rec (Some (Do a)) e = absurd (false≢true e)
form_is_rec (Some Tau) e = absurd (false≢true e)
form_is_rec (Some (Or r)) e = absurd (false≢true e)
form_is_rec (Some Rec) e = refl
form_is_rec (Some (Go k)) e = absurd (false≢true e)
form_is_rec None e = absurd (false≢true e)

-- the first test by the length
pub fits_length : (rs : List Record) → fits rs ≡ true → (0 < length rs) × (length rs ≤ 64)
fits_length rs f =
    let s = and_parts (nat_lt 0 (length rs)) (nat_le (length rs) 64) f in
    (ltb-true 0 (length rs) s.0, leb-true (length rs) 64 s.1)

-- the first four tests, as facts
pub record Formed (rs : List Record) : Type 0 where
  pub some : 1 ≤ length rs
  pub few : length rs ≤ 64
  pub known : all_allowed rs ≡ true
  pub laid : LaidOut rs
  pub bound : Bound rs

module _ (rs : List Record) where
  pub bound_of : all_bound rs ≡ true → Bound rs
  bound_of ok j k q =
      let at = ap (bound_by rs j) (sym q) ∙ each_at (λ i. bound_by rs i (form_at rs i)) (length rs) j (known_within rs j (Go k) q) ok in
      let a = and_parts (is_rec (form_at rs k) && nat_lt k j) (reaches j (past rs k)) at in
      let b = and_parts (is_rec (form_at rs k)) (nat_lt k j) a.0 in
      (form_is_rec (form_at rs k) b.0, ltb-true k j b.1, reaches_over j (past rs k) a.1)

  pub formed_by : fits rs ≡ true → all_allowed rs ≡ true → laid_out rs ≡ true → all_bound rs ≡ true → Formed rs
  formed_by f a l b =
      let s = fits_length rs f in
      record {
        some = s.0;
        few = s.1;
        known = a;
        laid = is_at_some (length rs) (past rs zero) l;
        bound = bound_of b;
      }

  pub vetted_formed : vetted rs ≡ true → Formed rs × (all_guarded rs ≡ true)
  vetted_formed ok =
      let e = and_parts (fits rs && all_allowed rs && laid_out rs && all_bound rs) (all_guarded rs) ok in
      let d = and_parts (fits rs && all_allowed rs && laid_out rs) (all_bound rs) e.0 in
      let c = and_parts (fits rs && all_allowed rs) (laid_out rs) d.0 in
      let b = and_parts (fits rs) (all_allowed rs) c.0 in
      (formed_by b.0 b.1 c.1 d.1, e.1)

all_five : (a b c d e : Bool) → unless a 21 (unless b 22 (unless c 23 (unless d 24 (unless e 25 (Ok tt))))) ≡ Ok tt → (a && b && c && d && e) ≡ true
all_five false b c d e q = let z : ◌≡◌ {A = ℕ} 0 1 = cc in absurd (omega arith)
all_five true false c d e q = let z : ◌≡◌ {A = ℕ} 0 1 = cc in absurd (omega arith)
all_five true true false d e q = let z : ◌≡◌ {A = ℕ} 0 1 = cc in absurd (omega arith)
all_five true true true false e q = let z : ◌≡◌ {A = ℕ} 0 1 = cc in absurd (omega arith)
all_five true true true true false q = let z : ◌≡◌ {A = ℕ} 0 1 = cc in absurd (omega arith)
all_five true true true true true q = refl

-- what passes every test in turn passes all of them
pub passed_vetted : (rs : List Record) → verdict rs ≡ Ok tt → vetted rs ≡ true
passed_vetted rs q = all_five (fits rs) (all_allowed rs) (laid_out rs) (all_bound rs) (all_guarded rs) q

-- a test that is not the one refused has passed
passes : (b : Bool) (n m : ℕ) (r : Result (Unit {0}) ℕ) → (n ≢ m) → unless b n r ≡ Err m → (b ≡ true) × (r ≡ Err m)
passes true n m r ne e = (refl, e)
passes false n m r ne e = absurd (ne cc)

-- and the one refused has failed, where the later ones have other numbers
fails : (b : Bool) (n : ℕ) (r : Result (Unit {0}) ℕ) → (r ≢ Err n) → unless b n r ≡ Err n → b ≡ false
fails true n r ne e = absurd (ne e)
fails false n r ne e = refl

other : (b : Bool) (n m : ℕ) (r : Result (Unit {0}) ℕ) → (n ≢ m) → (r ≢ Err m) → unless b n r ≢ Err m
other b n m r ne k e = k (passes b n m r ne e).1

no_fault : (n : ℕ) → ◌≡◌ {A = Result (Unit {0}) ℕ} (Ok tt) (Err n) → ⊥
no_fault n e = let z : ◌≡◌ {A = ℕ} 0 1 = cc in omega arith

-- what the tests say of a table that is refused by a number
module _ (rs : List Record) where
  -- the tests from each one on do not refuse by a lower number
  from_25 : (n : ℕ) → n < 25 → unless (all_guarded rs) 25 (Ok tt) ≢ Err n
  from_25 n h = other (all_guarded rs) 25 n _ (λ e. omega arith) (no_fault n)

  from_24 : (n : ℕ) → n < 24 → unless (all_bound rs) 24 (unless (all_guarded rs) 25 (Ok tt)) ≢ Err n
  from_24 n h = other (all_bound rs) 24 n _ (λ e. omega arith) (from_25 n (omega arith))

  from_23 : (n : ℕ) → n < 23 → unless (laid_out rs) 23 (unless (all_bound rs) 24 (unless (all_guarded rs) 25 (Ok tt))) ≢ Err n
  from_23 n h = other (laid_out rs) 23 n _ (λ e. omega arith) (from_24 n (omega arith))

  pub refused_21 : verdict rs ≡ Err 21 → fits rs ≡ false
  refused_21 q = fails (fits rs) 21 _ (other (all_allowed rs) 22 21 _ (λ e. omega arith) (from_23 21 (omega arith))) q

  pub refused_22 : verdict rs ≡ Err 22 → (fits rs ≡ true) × (all_allowed rs ≡ false)
  refused_22 q =
      let a = passes (fits rs) 21 22 _ (λ e. omega arith) q in
      (a.0, fails (all_allowed rs) 22 _ (from_23 22 (omega arith)) a.1)

  pub refused_23 : verdict rs ≡ Err 23 → (fits rs ≡ true) × (all_allowed rs ≡ true) × (laid_out rs ≡ false)
  refused_23 q =
      let a = passes (fits rs) 21 23 _ (λ e. omega arith) q in
      let b = passes (all_allowed rs) 22 23 _ (λ e. omega arith) a.1 in
      (a.0, b.0, fails (laid_out rs) 23 _ (from_24 23 (omega arith)) b.1)

  pub refused_24 : verdict rs ≡ Err 24 → (fits rs ≡ true) × (all_allowed rs ≡ true) × (laid_out rs ≡ true) × (all_bound rs ≡ false)
  refused_24 q =
      let a = passes (fits rs) 21 24 _ (λ e. omega arith) q in
      let b = passes (all_allowed rs) 22 24 _ (λ e. omega arith) a.1 in
      let c = passes (laid_out rs) 23 24 _ (λ e. omega arith) b.1 in
      (a.0, b.0, c.0, fails (all_bound rs) 24 _ (from_25 24 (omega arith)) c.1)

  pub refused_25 : verdict rs ≡ Err 25 → Formed rs × (all_guarded rs ≡ false)
  refused_25 q =
      let a = passes (fits rs) 21 25 _ (λ e. omega arith) q in
      let b = passes (all_allowed rs) 22 25 _ (λ e. omega arith) a.1 in
      let c = passes (laid_out rs) 23 25 _ (λ e. omega arith) b.1 in
      let d = passes (all_bound rs) 24 25 _ (λ e. omega arith) c.1 in
      (formed_by rs a.0 b.0 c.0 d.0, fails (all_guarded rs) 25 _ (no_fault 25) d.1)

  -- and the verdict by what each test in turn says
  pub verdict_21 : fits rs ≡ false → verdict rs ≡ Err 21
  verdict_21 a = rw a

  pub verdict_22 : fits rs ≡ true → all_allowed rs ≡ false → verdict rs ≡ Err 22
  verdict_22 a b = rw (a, b)

  module _ (a : fits rs ≡ true) (b : all_allowed rs ≡ true) where
    pub verdict_23 : laid_out rs ≡ false → verdict rs ≡ Err 23
    verdict_23 c = rw (a, b, c)

    pub verdict_24 : laid_out rs ≡ true → all_bound rs ≡ false → verdict rs ≡ Err 24
    verdict_24 c d = rw (a, b, c, d)

    pub verdict_25 : laid_out rs ≡ true → all_bound rs ≡ true → all_guarded rs ≡ false → verdict rs ≡ Err 25
    verdict_25 c d e = rw (a, b, c, d, e)

    pub verdict_ok : laid_out rs ≡ true → all_bound rs ≡ true → all_guarded rs ≡ true → verdict rs ≡ Ok tt
    verdict_ok c d e = rw (a, b, c, d, e)

-- where the first test fails, by the length
pub misfit_length : (rs : List Record) → fits rs ≡ false → (length rs ≡ 0) ⊎ (64 < length rs)
misfit_length rs f =
    ⊎_elim {C = (length rs ≡ 0) ⊎ (64 < length rs)}
    (λ h. inr h)
    (λ h.
    ⊎_elim {C = (length rs ≡ 0) ⊎ (64 < length rs)}
    (λ g. absurd (true≢false (sym (and_from (nat_lt 0 (length rs)) (nat_le (length rs) 64) (lt-ltb 0 (length rs) g) (le-leb (length rs) 64 h)) ∙ f)))
    (λ g. inl (omega arith))
    (cases_lt 0 (length rs)))
    (cases_lt 64 (length rs))

pub length_misfits : (rs : List Record) → (length rs ≡ 0) ⊎ (64 < length rs) → fits rs ≡ false
length_misfits rs k = here (fits rs) refl k
  where
    here : (b : Bool) → fits rs ≡ b → (length rs ≡ 0) ⊎ (64 < length rs) → b ≡ false
    here false e k = refl
    here true e (inl z) = absurd (omega (arith, (fits_length rs e).0, z))
    here true e (inr z) = absurd (omega (arith, (fits_length rs e).1, z))

pub vetted_laid : (rs : List Record) → vetted rs ≡ true → LaidOut rs
vetted_laid rs ok = (vetted_formed rs ok).0.laid

-- an or of a vetted table
pub vetted_both : (rs : List Record) (i r : ℕ) → vetted rs ≡ true → Some (Or r) ≡ form_at rs i → Both rs i r × (length rs ≤ 64)
vetted_both rs i r ok is = let w = (vetted_formed rs ok).0 in (both rs i r w.laid is, w.few)
