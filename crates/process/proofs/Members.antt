-- The laws of sets.
use Rattle.std.proofs.Common.{◌≡◌, ℕ, ◌<◌, ◌≤◌, cond, ◌⊎◌, ◌↔◌, sym, ap, subst, inl, inr, ⊎_elim, arith}
use lib.Bits.{bit_or}
use Rattle.std.proofs.lemmas.Bool.{cases_lt, lt-ltb}
use Rattle.process.specs.Sets.{inserted, single, only, In}
use Rattle.process.specs.SetLaws.{SetLaws}
use Rattle.process.proofs.Bits.{ext, some_in, not_in_empty, in_or, or_in_left, or_in_right, in_only, only_in, within_in, in_within}

no_state : (T : ℕ) → (T ≡ 0) ↔ ((t : ℕ) → In T t → ⊥)
no_state T = (λ e t i. not_in_empty t (subst (λ (n : ℕ). In n t) e i), λ h. at h (cases_lt 0 T))
  where
    at : ((t : ℕ) → In T t → ⊥) → (0 < T) ⊎ (T ≤ 0) → T ≡ 0
    at h (inl l) = let s = some_in T l in absurd (h s.0 s.1)
    at h (inr l) = omega arith

of_either : (S T t : ℕ) → In (bit_or S T) t ↔ (In S t ⊎ In T t)
of_either S T t = (in_or S T t, ⊎_elim (or_in_left S T t) (or_in_right S T t))

is_only : (T u : ℕ) → u < 64 → inserted T u ≡ bit_or T (only u)
is_only T u h = ap (λ b. cond b (bit_or T (only u)) T) (lt-ltb u 64 h)

one_more : (T u t : ℕ) → u < 64 → In (inserted T u) t ↔ (In T t ⊎ (t ≡ u))
one_more T u t h = (
  λ i. ⊎_elim inl (λ o. inr (only_in u t o)) (in_or T (only u) t (subst (λ (n : ℕ). In n t) (is_only T u h) i)),
  λ e. subst (λ (n : ℕ). In n t) (sym (is_only T u h)) (⊎_elim (or_in_left T (only u) t) there e),
)
  where
    there : t ≡ u → In (bit_or T (only u)) t
    there e = or_in_right T (only u) t (subst (λ (n : ℕ). In (only n) t) e (in_only t))

just_one : (u t : ℕ) → u < 64 → In (single u) t ↔ (t ≡ u)
just_one u t h = (
  λ i. ⊎_elim (λ o. absurd (not_in_empty t o)) (λ e. e) ((one_more 0 u t h).0 i),
  λ e. (one_more 0 u t h).1 (inr e),
)

pub set_laws : SetLaws
set_laws =
    record {
      same_states = ext;
      no_state = no_state;
      of_either = of_either;
      one_more = one_more;
      just_one = just_one;
      subset = λ S T. (within_in S T, in_within S T);
    }
