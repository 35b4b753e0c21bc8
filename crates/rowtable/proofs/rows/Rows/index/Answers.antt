use Rattle.std.proofs.Common.{[], ◌∷◌, ◌++◌, length, sum_by, sym, ap, ◌∙◌, arith}
use Rattle.std.proofs.lemmas.List.FromFn.{map-range_with_len_more}
use Rattle.movetable.proofs.Copying.{length_below, same_process, same_limits}
use Rattle.rowtable.specs.Rows.{meant, moves_of}
use Rattle.rowtable.specs.Vetted.{written}
use Rattle.rowtable.specs.Tables.{from_vetted, table_limits}
use Rattle.rowtable.proofs.Counting.{room_for_state}
use Rattle.rowtable.proofs.rows.Rows.index.Goals as goal

pub add_state_of-requires-clause-few : goal.add_state_of-requires-clause-few
add_state_of-requires-clause-few c =
    let r = c.args.self.now in
    omega (arith, ap length c.loop-s.invariant, length_below (meant (written r)) c.loop-s.s, (from_vetted r.states r.rows.now r.ok).few)

pub add_state_of-requires-clause-room : goal.add_state_of-requires-clause-room
add_state_of-requires-clause-room c =
    let r = c.args.self.now in
    omega (arith, ap (sum_by length) c.loop-s.invariant, room_for_state c.loop-s.s r.rows.now, (from_vetted r.states r.rows.now r.ok).short)

pub loop-s-preserved : goal.loop-s-preserved
loop-s-preserved c =
    let r = c.args.self.now in
    c.add_state_of.ensures
    ∙ ap (λ ls. ls ++ moves_of c.loop-s.s r.rows.now ∷ []) c.loop-s.invariant
    ∙ sym (map-range_with_len_more (meant (written r)).moves 0 c.loop-s.s c.loop-s.s (omega arith))

pub of_lists-requires : goal.of_lists-requires
of_lists-requires c =
    let r = c.args.self.now in
    (omega arith, (omega arith, same_limits (meant (written r)) (table_limits r.states r.rows.now r.ok) c.loop-s.s c.loop-s.lists c.loop-s.invariant (omega arith)))

pub returns : goal.returns
returns c =
    let r = c.args.self.now in
    c.of_lists.ensures ∙ same_process (meant (written r)) (table_limits r.states r.rows.now r.ok) c.loop-s.s c.loop-s.lists c.loop-s.invariant (omega arith)
