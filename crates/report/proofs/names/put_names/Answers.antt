use Rattle.std.proofs.lemmas.List.{append-nil}
use Rattle.report.specs.Lines.{spaced}
use Rattle.writing.proofs.Puts.{writes_exit, writes_next, writes_stop}
use Rattle.report.proofs.names.put_names.Goals as goal

pub returns-in_err-put_pieces : goal.returns-in_err-put_pieces
returns-in_err-put_pieces c =
    let h = rw (append-nil c.letters_of.result.now, c.letters_of.ensures) at c.in_err-put_pieces.ensures.writes in
    writes_exit c.from_residual.ensures.1
    (writes_stop spaced c.args.motions.now _
    (writes_next spaced _ c.loop-motion.motion-index _ c.loop-motion-test.true c.loop-motion.invariant h))

pub loop-motion-preserved : goal.loop-motion-preserved
loop-motion-preserved c =
    let h = rw (append-nil c.letters_of.result.now, c.letters_of.ensures) at c.in_ok-put_pieces.ensures.writes in
    writes_next spaced c.args.motions.now c.loop-motion.motion-index _ c.loop-motion-test.true c.loop-motion.invariant h
