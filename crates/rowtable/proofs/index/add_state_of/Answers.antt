use Rattle.std.proofs.Common.{◌∙◌}
use Rattle.rowtable.specs.Tables.{moves_yes, moves_no}
use Rattle.rowtable.proofs.Indexing.{move_added, row_passed}
use Rattle.rowtable.proofs.index.add_state_of.Goals as goal
use Rattle.rowtable.proofs.index.add_state_of.Goals.{then-row-s, else-row-s}

pub loop-row-preserved : goal.loop-row-preserved
loop-row-preserved c =
    let w = c.loop-row in
    elim c.if-row-s.branch [
      | then-row-s b ↦
          move_added c.args.lists.now _ _ w.lists w.invariant _ _ _ _ (moves_yes c.args.rows.now w.row-index c.args.s _ c.loop-row-test.true b.if-row-s.true) b.from.ensures (b.lists-is ∙ b.push.ensures)
      | else-row-s b ↦
          row_passed c.args.lists.now _ _ w.lists w.invariant _ _ (moves_no c.args.rows.now w.row-index c.args.s _ c.loop-row-test.true b.if-row-s.false) b.lists-is
    ]
