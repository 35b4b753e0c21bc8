use Rattle.std.proofs.Common.{arith}
use Rattle.std.proofs.lemmas.Grind.{common_steps}
use Rattle.motions.proofs.Lookups.{text_there}
use Rattle.motions.proofs.shown.Named.text.Goals as goal

pub returns : goal.returns
returns c =
    let text = text_there c.name_of.result c.args.self.motion c.name_of.ensures.is in
    grind (arith, common_steps)
