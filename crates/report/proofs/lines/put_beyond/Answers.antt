use Rattle.writing.proofs.Puts.{writes_exit, writes_then, writes_fail}
use Rattle.report.proofs.lines.put_beyond.Goals as goal

pub returns-in_err-put_pieces : goal.returns-in_err-put_pieces
returns-in_err-put_pieces c = writes_exit c.from_residual.ensures.1 (writes_fail _ (writes_fail _ c.in_err-put_pieces.ensures.writes))

pub returns-in_err-put_names : goal.returns-in_err-put_names
returns-in_err-put_names c =
    writes_exit c.from_residual-in_err-put_names.ensures.1 (writes_fail _ (writes_then c.in_ok-put_pieces.ensures.writes c.in_err-put_names.ensures))

pub returns : goal.returns
returns c = writes_then (writes_then c.in_ok-put_pieces.ensures.writes c.in_ok-put_names.ensures) c.put_bytes.ensures.writes
