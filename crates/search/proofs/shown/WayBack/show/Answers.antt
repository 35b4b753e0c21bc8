use Rattle.std.proofs.Common.{ℕ, refl, arith, length-set}
use Rattle.std.proofs.lemmas.Iterator.Consumers.{count_from_yields_List, YieldsList-from_first}
use Rattle.search.specs.WayBack.{left_of}
use Rattle.search.proofs.Writing.{writes_last, writes_on}
use Rattle.search.proofs.shown.WayBack.show.Goals as goal

pub loop-k-init : goal.loop-k-init
loop-k-init c =
    let n = count_from_yields_List c.args.self _ c.count-before.ensures.ran (YieldsList-from_first (λ r. r) left_of _ refl) in
    record {
      can = (tt, tt);
      ends = tt;
      writes =
          rw (c.into_iter-k-iterator.ensures.into_iter_gives, c.zip-k-items.ensures.first, c.rev.ensures.source, c.zip-k-items.ensures.second)
          (writes_last (left_of c.args.self) c.count-before.result c.args.last c.args.motions.now n c.if-before-motions.false);
    }

pub loop-k-preserved : goal.loop-k-preserved
loop-k-preserved c =
    let s = c.in-Some.ensures.steps in
    record {
      can = (tt, tt);
      ends = tt;
      writes =
          rw (s.0.0, ← s.0.1.1)
          (writes_on _ _ _ _ c.in-Some.k _ c.loop-k.motions _ (rw s.1 at c.loop-k.invariant.writes) (omega (arith, length-set {A = ℕ})) (rw (← s.0.1.1) at s.0.1.2));
    }
