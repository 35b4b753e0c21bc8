use Rattle.std.proofs.Common.{ℕ, ◌∙◌, ap₂}
use lib.Bits.{bit_or, or_zero_l}
use Rattle.reach.specs.Reach.{image}
use Rattle.reach.proofs.Reaching.{after_at}
use Rattle.reach.proofs.reach.after.Goals as goal

pub returns : goal.returns
returns g c =
    let p = g.P.Process.meaning c.args.p.now in
    after_at p (g.met.P.Process.limits c.args.p.now) c.args.set.bits c.args.motion c.with_image.result.bits
    (c.with_image.ensures
    ∙ ap₂ (λ (S T : ℕ). bit_or S (image p c.args.motion T)) c.empty.ensures c.silent_reach-from.ensures.value
    ∙ or_zero_l (image p c.args.motion _))
