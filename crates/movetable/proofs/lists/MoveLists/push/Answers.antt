use Rattle.std.proofs.Common.{length, ap, ◌∙◌, arith}
use Rattle.movetable.specs.Lists.{pushed}
use Rattle.movetable.proofs.Laying.{length_lists, room_left, lists_pushed, laid_pushed}
use Rattle.movetable.proofs.lists.MoveLists.push.Goals as goal

pub bounds-self-inside-end : goal.bounds-self-inside-end
bounds-self-inside-end g c = room_left g.row.ROOM _ _ _ _ c.self.invariant c.self.told2 c.self.view_is c.requires.room

pub overflow_add-self : goal.overflow_add-self
overflow_add-self g c = omega (arith, room_left g.row.ROOM _ _ _ _ c.self.invariant c.self.told2 c.self.view_is c.requires.room, c.self.invariant.small)

pub invariant_of-self : goal.invariant_of-self
invariant_of-self g c =
    let t = c.self.inside in
    let n = length_lists t.starts t.moves t.states in
    let same = ap length c.self.view_is in
    laid_pushed g.row.ROOM t.states t.starts c.self.invariant (omega arith) (omega arith) (room_left g.row.ROOM _ _ _ _ c.self.invariant c.self.told2 c.self.view_is c.requires.room)

pub returns : goal.returns
returns g c =
    let t = c.self.inside in
    let n = length_lists t.starts t.moves t.states in
    let same = ap length c.self.view_is in
    let space = room_left g.row.ROOM _ _ _ _ c.self.invariant c.self.told2 c.self.view_is c.requires.room in
    lists_pushed t.starts t.moves t.states c.args.m (omega arith) (omega arith) (omega arith) c.self.invariant.rising ∙ ap (pushed c.args.m) c.self.view_is
