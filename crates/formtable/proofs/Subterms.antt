-- The subterm of a laid out form.
use Rattle.std.proofs.Common.{Some, None, Option, ◌≡◌, ℕ, zero, suc, ◌+◌, ◌≤◌, Bool, true, false, List, length, sym, ap, ◌∙◌, arith}
use Rattle.std.proofs.lemmas.Bool.{true≢false}
use Rattle.formtable.specs.Layout.{form_at}
use Rattle.formtable.specs.Places.{sub_in, subterm}
use Rattle.formtable.specs.Terms.{Term, nil, prefix, sum, var, recur}
use Rattle.formtable.specs.declared.record.Form.{Form}
use Rattle.formtable.specs.declared.record.Form.TheVariants.{End, Do, Tau, Or, Rec, Go}
use Rattle.formtable.specs.declared.record.Record.{Record}
use Rattle.formtable.specs.Laid.{At, at_end, at_do, at_tau, at_or, at_rec, at_go, at_longer}
use Rattle.formtable.specs.Steps.{at_within}

abbrev pub sub_of : {rs : List Record} {i j : ℕ} → At rs i j → Term
sub_of (at_end f) = nil
sub_of (at_do {a = a} f d) = prefix a (sub_of d)
sub_of (at_tau f d) = prefix 0 (sub_of d)
sub_of (at_or f d e) = sum (sub_of d) (sub_of e)
sub_of (at_rec {i = i} f d) = recur i (sub_of d)
sub_of (at_go {k = k} f) = var k

-- with enough levels it is the subterm of the place
pub at_sub_in : {rs : List Record} {i j : ℕ} (d : At rs i j) (n : ℕ) → j ≤ n + i → sub_in n rs i ≡ sub_of d
at_sub_in d zero h = absurd (omega (arith, at_longer d))
at_sub_in (at_end f) (suc n) h = rw f
at_sub_in (at_do {a = a} f d) (suc n) h = rw f (ap (prefix a) (at_sub_in d n (omega arith)))
at_sub_in (at_tau f d) (suc n) h = rw f (ap (prefix 0) (at_sub_in d n (omega arith)))
at_sub_in (at_or f d e) (suc n) h = rw (f, at_sub_in d n (omega (arith, at_longer e)), at_sub_in e n (omega (arith, at_longer d)))
at_sub_in (at_rec {i = i} f d) (suc n) h = rw f (ap (recur i) (at_sub_in d n (omega arith)))
at_sub_in (at_go f) (suc n) h = rw f

pub sub_is : {rs : List Record} {i j : ℕ} (d : At rs i j) → subterm rs i ≡ sub_of d
sub_is {rs} d = at_sub_in d (length rs) (omega (arith, at_within d))

abbrev is_go : Option Form → Bool
is_go (Some End) = false
is_go (Some (Do a)) = false
is_go (Some Tau) = false
is_go (Some (Or r)) = false
is_go (Some Rec) = false
is_go (Some (Go k)) = true
is_go None = false

-- the place of a go is that of no other form
pub not_go : (rs : List Record) (i j x : ℕ) (f : Option Form) → form_at rs i ≡ f → is_go f ≡ false → form_at rs j ≡ Some (Go x) → i ≡ j → ⊥
not_go rs i j x f p n q e = true≢false (ap is_go (sym q) ∙ ap (λ (y : ℕ). is_go (form_at rs y)) (sym e) ∙ ap is_go p ∙ n)
