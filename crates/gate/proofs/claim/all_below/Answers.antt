use Rattle.std.proofs.Common.{◌^◌, sym, ◌∙◌, lt_of_lt_of_le, pow_mono}
use Rattle.std.proofs.lemmas.Bool.{le-leb, lt-ltb}
use Rattle.gate.proofs.claim.all_below.Goals as goal

-- a set of 64 bits lies below n states, for every n from 64 on
pub returns-then-n-ge-MAX_STATES : goal.returns-then-n-ge-MAX_STATES
returns-then-n-ge-MAX_STATES c =
    le-leb 64 c.args.n c.if-n-ge-MAX_STATES.true
    ∙ sym (lt-ltb c.args.bits (2 ^ c.args.n) (lt_of_lt_of_le c.ranges.bits.fits (pow_mono c.if-n-ge-MAX_STATES.true)))
