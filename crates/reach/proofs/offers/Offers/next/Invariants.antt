use Rattle.std.proofs.Common.{◌≡◌, ◌-◌}
use Rattle.reach.specs.Offers.{rest}
use Rattle.reach.proofs.offers.Offers.next.Given as goal

abbrev pub invariant-loop-self : goal.invariant-loop-self
invariant-loop-self g l = rest (g.P.Process.meaning l.p) l.self ≡ rest (g.P.Process.meaning l.p) l.initial.self

abbrev pub decreases-loop-self : goal.decreases-loop-self
decreases-loop-self g l = (g.P.Process.meaning l.p).states - l.self.state
