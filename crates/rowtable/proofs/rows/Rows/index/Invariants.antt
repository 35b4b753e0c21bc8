use Rattle.std.proofs.Common.{◌≡◌}
use Rattle.movetable.specs.Lists.{lists_below}
use Rattle.rowtable.specs.Rows.{meant}
use Rattle.rowtable.specs.Vetted.{written}
use Rattle.rowtable.proofs.rows.Rows.index.Given as goal

abbrev pub invariant-loop-s : goal.invariant-loop-s
invariant-loop-s l = l.lists ≡ lists_below (meant (written l.self)) l.s
