use Rattle.std.proofs.Common.{refl, arith}
use Rattle.writing.specs.Pieces.{piece_text}
use Rattle.writing.proofs.Puts.{writes_next, writes_stop, writes_back}
use Rattle.writing.proofs.output.Output.put_pieces.Goals as goal

pub returns-in-Err-clause-writes : goal.returns-in-Err-clause-writes
returns-in-Err-clause-writes c =
    writes_back
    (writes_stop piece_text c.args.pieces.now _
    (writes_next piece_text _ c.loop-piece.piece-index _ c.loop-piece-test.true c.loop-piece.invariant c.in-Err.ensures.writes))
    refl (omega arith)

pub loop-piece-preserved : goal.loop-piece-preserved
loop-piece-preserved c =
    writes_next piece_text c.args.pieces.now c.loop-piece.piece-index _ c.loop-piece-test.true c.loop-piece.invariant c.in_default.ensures.writes
