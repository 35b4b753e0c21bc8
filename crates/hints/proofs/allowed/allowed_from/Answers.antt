use Rattle.std.proofs.Common.{◌+◌, false, rules, tests}
use Rattle.hints.specs.Allowed.{allowed}
use Rattle.hints.proofs.Allowing.{from_fn_is}
use Rattle.hints.proofs.allowed.allowed_from.Goals as goal

pub returns : goal.returns
returns g c =
    from_fn_is _ _ (λ i. allowed (g.P.Process.meaning c.args.p.now) c.args.set.bits (i + 1)) (λ i b q k. search (rules, tests)) c.from_fn.result false 24 c.from_fn.ensures.items
