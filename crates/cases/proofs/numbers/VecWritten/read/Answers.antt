use Rattle.std.proofs.Common.{◌≡◌, ℕ, List, [], ◌∷◌, ◌++◌, refl, subst, sym, ap, ◌∙◌, length, inr, arith, rules}
use Rattle.std.proofs.lemmas.Grind.{common_steps}
use Rattle.std.proofs.lemmas.Result.{err_from_is_err_and}
use Rattle.cases.specs.Reading.{ReadsAll}
use Rattle.cases.proofs.numbers.VecWritten.read.Goals as goal

-- one part more
ReadsAll-push : {X : Type 0} (R : List ℕ → X → List ℕ → Type 0) (old : List ℕ) (xs : List X) (mid : List ℕ) (x : X) (new : List ℕ) → ReadsAll R old xs mid → R mid x new → ReadsAll R old (xs ++ x ∷ []) new
ReadsAll-push R old [] mid x new e r = (new, subst (λ (m : List ℕ). R m x new) (sym e) r, refl)
ReadsAll-push R old (y ∷ ys) mid x new h r = (h.0, h.1, ReadsAll-push R h.0 ys mid x new h.2 r)

pub loop-preserved : goal.loop-preserved
loop-preserved g c =
    let e : c.push.new.self.items ≡ c.loop.parts.items ++ c.in_ok-part.part ∷ [] = search rules in
    record {
      so_many = rw e (grind (arith, common_steps));
      read = rw e (ReadsAll-push g.T.Written.Reads _ _ _ _ _ c.loop.invariant.read c.in_ok-part.ensures.ok);
    }

pub returns-clause-ok : goal.returns-clause-ok
returns-clause-ok g c =
    let e : length c.loop.parts.items ≡ c.in_ok-count.count = omega arith in
    (c.read.new.numbers, c.in_ok-count.ensures.ok ∙ ap (λ n. n ∷ c.read.new.numbers) (sym e), c.loop.invariant.read)

pub returns-in_err-part-clause-err : goal.returns-in_err-part-clause-err
returns-in_err-part-clause-err g c =
    let p = err_from_is_err_and c.from_residual-in_err-part.result c.from_residual-in_err-part.ensures.1 in
    rw (p.1, p.2)
    (inr (inr (c.in_ok-count.count, c.read.new.numbers, c.loop.parts.items, c.loop.numbers, c.in_ok-count.ensures.ok, c.loop.invariant.read, omega arith, c.in_err-part.ensures.err)))
