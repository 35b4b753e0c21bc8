use Rattle.std.proofs.Common.{[], ◌∷◌}
use Rattle.search.specs.Back.{along}
use Rattle.search.specs.WayBack.{left_of}
use Rattle.search.proofs.Writing.{Writes}
use Rattle.search.proofs.shown.WayBack.show.Given as goal

abbrev pub invariant-loop-k : goal.invariant-loop-k
invariant-loop-k l =
    let it = l.k-iterator in
    record {
      can : (goal.iterator-loop-k).can_next it;
      ends : (goal.iterator-loop-k).is_finite it;
      writes : Writes (left_of it.b) it.a.iter.start it.a.iter.end l.before l.motions (along (left_of l.fn.self) (l.fn.last ∷ []));
    }
