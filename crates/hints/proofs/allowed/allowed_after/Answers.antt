use Rattle.std.proofs.Common.{ap, ◌∙◌}
use Rattle.hints.specs.Allowed.{allowed_from}
use Rattle.hints.proofs.Allowing.{allows}
use Rattle.hints.proofs.allowed.allowed_after.Goals as goal

pub returns-clause-says : goal.returns-clause-says
returns-clause-says g c =
    let p = g.P.Process.meaning c.args.p.now in
    allows p (g.met.P.Process.limits c.args.p.now) c.args.motions.now c.allowed_from.result
    (c.allowed_from.ensures ∙ ap (allowed_from p) c.after_motions.ensures)
