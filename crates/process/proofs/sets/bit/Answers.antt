use Rattle.std.proofs.Common.{sym, ◌∙◌}
use Rattle.std.proofs.lemmas.Bool.{le-ltb}
use Rattle.process.proofs.Bits.{out_above}
use Rattle.process.proofs.sets.bit.Goals as goal

pub returns-else-t-lt-MAX_STATES : goal.returns-else-t-lt-MAX_STATES
returns-else-t-lt-MAX_STATES c =
    le-ltb c.args.t 64 c.if-t-lt-MAX_STATES.false
    ∙ sym (out_above c.args.bits 64 c.args.t c.ranges.bits.fits c.if-t-lt-MAX_STATES.false)
