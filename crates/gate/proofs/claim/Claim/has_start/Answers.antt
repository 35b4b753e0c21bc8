use Rattle.std.proofs.Common.{◌&&◌, eqb, ap, ◌∙◌}
use Rattle.std.specs.List.{list_any}
use Rattle.gate.proofs.Keys.{key_found}
use Rattle.gate.proofs.claim.Claim.has_start.Goals as goal

pub returns : goal.returns
returns g c =
    c.is_some.ensures
    ∙ key_found c.args.self.now.rows.now 0 c.single.result.bits c.find_row.result c.find_row.ensures
    ∙ ap (λ S. list_any (λ x. eqb x.state 0 && eqb x.set.bits S) c.args.self.now.rows.now) c.single.ensures
