-- The plain way to follow the permit keeps the laws of After, so that the gate is exact and sound with it.
use Rattle.std.proofs.Common.{◌≡◌, ℕ, ◌<◌, ◌↔◌, List, [], sym, ◌∙◌, subst}
use Rattle.std.proofs.lemmas.Bool.{eqb-true, eq-eqb}
use Rattle.std.proofs.lemmas.Bool.Decides.{same_from_decides}
use Rattle.process.proofs.Bits.{in_only, only_in, some_in, ext}
use Rattle.process.specs.Meaning.{Proc, Limits}
use Rattle.process.specs.Runs.{Run, nothing}
use Rattle.process.specs.Sets.{has, only, In, Within}
use Rattle.certificate.specs.declared.Row.{Row}
use Rattle.reach.proofs.Reaching.{after_laws}
use Rattle.gate.specs.Follow.{AfterLaws, plain}
use Rattle.gate.specs.Gate.{Verdict, accepted, refused, gate, Certifies}
use Rattle.gate.specs.Refusals.{Refused}
use Rattle.gate.specs.Theorems.{Included, GateHolds}
use Rattle.gate.proofs.Judging.{refuses_exact}
use Rattle.gate.proofs.Soundness.{laws_suffice}

-- sets that lie within each other are the same
pub same_sets : (S T : ℕ) → Within S T → Within T S → S ≡ T
same_sets S T f g = ext S T (λ t. same_from_decides (has S t) (has T t) (λ e. e, λ e. e) (g t, f t))

-- a set that is not empty and lies within {0} is {0}
is_first : (S : ℕ) → 0 < S → Within S (only 0) → S ≡ only 0
is_first S l f = same_sets S (only 0) f back
  where
    back : Within (only 0) S
    back t i =
        let s = some_in S l in
        let here : In S 0 = subst (λ (x : ℕ). In S x) (only_in 0 s.0 (f s.0 s.1)) s.1 in
        subst (λ (x : ℕ). In S x) (sym (only_in 0 t i)) here

pub plain_laws : AfterLaws plain
plain_laws =
    record {
      reached = λ p L T a t l i. (after_laws p L T a).reached t l i;
      targets_in = λ p L T u v a t i run l h. (after_laws p L T a).targets_in u v t i run h;
      first_in = λ p L. in_only 0;
      silent_from = λ p L t i. subst (λ (x : ℕ). Run p 0 [] x) (sym (only_in 0 t i)) nothing;
      begins_within = λ p L S l.
          (λ e t i. subst (λ (x : ℕ). In x t) (eqb-true S (only 0) e) i, λ f. eq-eqb S (only 0) (is_first S l f));
    }

pub plain_holds : GateHolds plain
plain_holds = laws_suffice plain plain_laws

-- what the verdict of the gate says of the rows and of the traces
pub verdict_tells : (plan permit : Proc) → Limits plan → Limits permit → (rows : List Row) (v : Verdict) → v ≡ gate plain plan permit rows
    → record {
      exact : v ≡ gate plain plan permit rows;
      accepts : (v ≡ accepted) ↔ Certifies plain plan permit rows;
      refuses : (n i : ℕ) → (v ≡ refused n i) ↔ Refused plain plan permit rows n i;
      sound : v ≡ accepted → Included plan permit;
    }
verdict_tells plan permit L M rows v e =
    let G = plain_holds.gate_exact plan permit L M rows in
    let R = refuses_exact plain plain_laws plan permit L M rows in
    record {
      exact = e;
      accepts = (λ a. G.0 (sym e ∙ a), λ C. e ∙ G.1 C);
      refuses = λ n i. (λ a. (R n i).0 (sym e ∙ a), λ h. e ∙ (R n i).1 h);
      sound = λ a. plain_holds.gate_sound plan permit L M rows (sym e ∙ a);
    }
