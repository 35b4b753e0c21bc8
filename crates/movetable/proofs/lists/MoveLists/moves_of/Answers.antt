use Rattle.std.proofs.Common.{arith}
use Rattle.movetable.proofs.Laying.{at_place, end_within, none_past}
use Rattle.movetable.proofs.lists.MoveLists.moves_of.Goals as goal

pub returns-then-s-self : goal.returns-then-s-self
returns-then-s-self g c = none_past g.row.ROOM _ _ _ _ c.self.invariant c.self.told c.self.view_is c.args.s c.if-s-self.true

pub slice_bounds-result-end-2 : goal.slice_bounds-result-end-2
slice_bounds-result-end-2 g c = omega (arith, end_within g.row.ROOM _ _ _ _ c.self.invariant c.self.told c.self.view_is c.args.s c.if-s-self.false)

pub returns : goal.returns
returns g c = at_place g.row.ROOM _ _ _ _ c.self.invariant c.self.told c.self.view_is c.args.s c.if-s-self.false
