use Rattle.std.proofs.Common.{length, ap, ◌∙◌, arith}
use Rattle.movetable.proofs.Copying.{length_below, some_state, room_for, more_pushed, fewer_left, none_left, same_process, same_limits}
use Rattle.movetable.proofs.table.MoveTable.of.Goals as goal

pub add_state-requires : goal.add_state-requires
add_state-requires g c =
    let p = g.P.Process.meaning c.args.p.now in
    let L = g.met.P.Process.limits c.args.p.now in
    (omega (arith, c.requires.small), omega (arith, ap length c.loop-s.invariant, length_below p c.loop-s.s, L.few_states))

pub push-requires : goal.push-requires
push-requires g c =
    let p = g.P.Process.meaning c.args.p.now in
    let w = c.loop-m.invariant in (
      omega (arith, c.requires.small),
      (
        some_state p c.loop-s.s _ _ _ w.lists w.rest,
        room_for p c.loop-s.s _ _ _ w.lists w.rest g.row.ROOM c.in-Some.m _ c.requires.room (omega arith) c.in-Some.ensures.steps,
      ),
    )

pub loop-m-preserved : goal.loop-m-preserved
loop-m-preserved g c =
    let p = g.P.Process.meaning c.args.p.now in
    let w = c.loop-m.invariant in
    record {
      can_next = tt;
      ends = tt;
      lists = more_pushed p c.loop-s.s _ _ _ w.lists w.rest c.in-Some.m _ c.push.ensures;
      rest = fewer_left p c.loop-s.s _ _ _ w.lists w.rest c.in-Some.m _ c.in-Some.ensures.steps;
    }

pub loop-s-preserved : goal.loop-s-preserved
loop-s-preserved g c =
    let w = c.loop-m.invariant in
    none_left (g.P.Process.meaning c.args.p.now) c.loop-s.s _ _ _ w.lists w.rest c.in-None.ensures.steps.0

pub of_lists-requires : goal.of_lists-requires
of_lists-requires g c =
    let p = g.P.Process.meaning c.args.p.now in
    let L = g.met.P.Process.limits c.args.p.now in
    (omega (arith, c.requires.small), (omega (arith, c.requires.small), same_limits p L c.loop-s.s c.loop-s.lists c.loop-s.invariant (omega arith)))

pub returns : goal.returns
returns g c =
    let p = g.P.Process.meaning c.args.p.now in
    let L = g.met.P.Process.limits c.args.p.now in
    c.of_lists.ensures ∙ same_process p L c.loop-s.s c.loop-s.lists c.loop-s.invariant (omega arith)
