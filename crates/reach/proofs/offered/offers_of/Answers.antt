use Rattle.std.proofs.Common.{sym, subst}
use Rattle.std.specs.List.{All}
use Rattle.reach.specs.Offers.{IsKnown}
use Rattle.reach.proofs.Offering.{offers_known}
use Rattle.reach.proofs.offered.offers_of.Goals as goal

pub returns-clause-known : goal.returns-clause-known
returns-clause-known g c =
    let p = g.P.Process.meaning c.args.process.now in
    subst (All (IsKnown p)) (sym c.of.ensures.value) (offers_known p (g.met.P.Process.limits c.args.process.now) c.args.s)
