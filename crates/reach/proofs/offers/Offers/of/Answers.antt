use Rattle.reach.proofs.Offering.{cursor_of}
use Rattle.reach.proofs.offers.Offers.of.Goals as goal

pub returns : goal.returns
returns g c =
    cursor_of (g.P.Process.meaning c.args.p.now) (g.met.P.Process.limits c.args.p.now) c.args.s c.single.result c.silent_reach.result c.start.result
    c.single.ensures c.silent_reach.ensures.value c.start.ensures
