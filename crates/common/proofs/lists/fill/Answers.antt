use Rattle.std.proofs.Common.{replicate, ap, ◌∙◌, arith}
use Rattle.common.proofs.Filling.{all_same}
use Rattle.common.proofs.lists.fill.Goals as goal

pub returns : goal.returns
returns g c =
    all_same c.args.with c.loop-place.place-items (λ k d a l. c.loop-place.invariant k d a (omega arith))
    ∙ ap (λ n. replicate n c.args.with) c.loop-place.auto.place-items
