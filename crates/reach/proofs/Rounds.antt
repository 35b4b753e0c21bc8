-- How the silent reach is filled: round by round, until one adds nothing.
use Rattle.std.proofs.Common.{◌≡◌, ℕ, zero, suc, ◌+◌, ◌-◌, ◌≤◌, sym, ap, ◌∙◌, suc-add, zero-add, arith}
use Rattle.process.specs.Meaning.{Proc}
use Rattle.reach.specs.Reach.{grow, rounds}

rounds_fixed : (p : Proc) (T k : ℕ) → grow p (rounds p T k) ≡ rounds p T k → (j : ℕ) → rounds p T (j + k) ≡ rounds p T k
rounds_fixed p T k e zero = ap (rounds p T) (zero-add k)
rounds_fixed p T k e (suc j) = ap (rounds p T) (suc-add j k) ∙ ap (grow p) (rounds_fixed p T k e j) ∙ e

pub rounds_done : (p : Proc) (T k z r n : ℕ) → z ≡ rounds p T k → r ≡ grow p z → r ≡ z → k ≤ n → z ≡ rounds p T n
rounds_done p T k z r n e q s h =
    let fixed : grow p (rounds p T k) ≡ rounds p T k = sym (ap (grow p) e) ∙ sym q ∙ s ∙ e in
    let sum : (n - k) + k ≡ n = omega arith in
    e ∙ sym (rounds_fixed p T k fixed (n - k)) ∙ ap (rounds p T) sum
