use Rattle.std.proofs.Common.{◌≡◌, ◌+◌, refl, arith}
use Rattle.std.proofs.lemmas.Fmt.{decimal_step, decimal_digit}
use Rattle.writing.proofs.Puts.{writes_exit, writes_then, writes_fail, writes_back}
use Rattle.writing.proofs.output.Output.+put_number.Goals as goal
use Rattle.writing.proofs.output.Output.+put_number.Goals.{then-n-ge10+in_ok-put_number, else-n-ge10}

pub returns-in_err-put_number-clause-writes : goal.returns-in_err-put_number-clause-writes
returns-in_err-put_number-clause-writes t c =
    writes_exit c.from_residual.ensures.1
    (rw (decimal_step c.args.n c.if-n-ge10.true c.ranges.n.fits) (writes_fail _ c.in_err-put_number.ensures.writes))

pub returns-in-Err-clause-writes : goal.returns-in-Err-clause-writes
returns-in-Err-clause-writes t c =
    elim c.if-n-ge10.branch [
      | then-n-ge10+in_ok-put_number w ↦
          rw (decimal_step c.args.n w.if-n-ge10.true c.ranges.n.fits, ← c.last_digit.ensures)
          (writes_back (writes_then w.in_ok-put_number.ensures.writes (rw w.self-is at c.in-Err.ensures.writes)) refl (omega arith))
      | else-n-ge10 w ↦
          let digit : c.last_digit.result ≡ 48 + c.args.n = omega arith in
          rw (decimal_digit c.args.n w.if-n-ge10.false, ← digit) (writes_back (rw w.self-is at c.in-Err.ensures.writes) refl (omega arith))
    ]

pub returns-clause-writes : goal.returns-clause-writes
returns-clause-writes t c =
    elim c.if-n-ge10.branch [
      | then-n-ge10+in_ok-put_number w ↦
          rw (decimal_step c.args.n w.if-n-ge10.true c.ranges.n.fits, ← c.last_digit.ensures)
          (writes_then w.in_ok-put_number.ensures.writes (rw w.self-is at c.in_default.ensures.writes))
      | else-n-ge10 w ↦
          let digit : c.last_digit.result ≡ 48 + c.args.n = omega arith in
          rw (decimal_digit c.args.n w.if-n-ge10.false, ← digit, ← w.self-is) c.in_default.ensures.writes
    ]
