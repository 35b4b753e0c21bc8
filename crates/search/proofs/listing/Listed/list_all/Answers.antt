use Rattle.search.specs.Rule.{ruled}
use Rattle.search.proofs.Works.{leads_end}
use Rattle.search.proofs.listing.Listed.list_all.Goals as goal

pub returns-clause-value : goal.returns-clause-value
returns-clause-value g c =
    let E = ruled (g.P.Process.meaning c.args.asked.now.plan.now) (g.F.Rule.begins c.args.asked.now.rule.now) (g.F.Rule.leads c.args.asked.now.rule.now) in
    let v = c.loop-i.invariant in
    leads_end E c.loop-i.i c.args.self.now c.loop-i.self v.grows v.left c.loop-i-test.false v.reached
