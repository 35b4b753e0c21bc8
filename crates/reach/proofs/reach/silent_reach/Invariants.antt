use Rattle.std.proofs.Common.{◌≡◌}
use Rattle.reach.specs.Reach.{rounds}
use Rattle.reach.proofs.reach.silent_reach.Given as goal

abbrev pub invariant-loop-round : goal.invariant-loop-round
invariant-loop-round g l = l.all.bits ≡ rounds (g.P.Process.meaning l.p) l.initial.all.bits l._round
