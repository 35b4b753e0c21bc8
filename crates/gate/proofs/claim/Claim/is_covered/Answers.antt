use Rattle.std.proofs.Common.{rules, tests}
use Rattle.std.proofs.lemmas.Iterator.Consumers.{YieldsList-from_first}
use Rattle.std.proofs.lemmas.Iterator.Search.{all_from_yields_List}
use Rattle.reach.specs.Offers.{rest_of}
use Rattle.gate.specs.Follow.{plain}
use Rattle.gate.specs.Gate.{answered}
use Rattle.gate.proofs.claim.Claim.is_covered.Goals as goal

pub returns : goal.returns
returns g c =
    all_from_yields_List (answered plain (g.Q.Process.meaning c.args.self.now.permit.now) c.args.self.now.rows.now c.args.row.now.set.bits) c.all.new.self _ _
    c.all.ensures.ran (YieldsList-from_first (λ m. m) (rest_of g.P.Process.meaning) _ c.offers_of.ensures.value) (λ m b q k. search (rules, tests))
