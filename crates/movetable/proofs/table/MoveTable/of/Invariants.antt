use Rattle.std.proofs.Common.{◌≡◌, [], ◌∷◌, ◌++◌}
use Rattle.process.specs.Moves.{left_of}
use Rattle.movetable.specs.Lists.{lists_below}
use Rattle.movetable.proofs.table.MoveTable.of.Given as goal

abbrev pub invariant-loop-s : goal.invariant-loop-s
invariant-loop-s g l = l.lists ≡ lists_below (g.P.Process.meaning l.p) l.s

abbrev pub invariant-loop-m : goal.invariant-loop-m
invariant-loop-m g l =
    let p = g.P.Process.meaning l.p in record {
      can_next : (goal.iterator-loop-m g).can_next l.m-iterator;
      ends : (goal.iterator-loop-m g).is_finite l.m-iterator;
      lists : l.lists ≡ lists_below p l.s ++ l.yielded ∷ [];
      rest : l.yielded ++ left_of g.P.Process.meaning l.m-iterator ≡ p.moves l.s;
    }
