use Rattle.std.proofs.Common.{length, arith}
use Rattle.std.proofs.lemmas.Grind.{common_steps}
use Rattle.common.specs.Faults.{numbered}
use Rattle.search.specs.Answers.{search_number}
use Rattle.search.proofs.Holding.{exactly_tells}
use Rattle.search.proofs.inclusion.certify.Goals as goal

pub returns : goal.returns
returns g c =
    exactly_tells (g.P.Process.meaning c.args.plan.now) (g.Q.Process.meaning c.args.permit.now)
    (g.met.P.Process.limits c.args.plan.now) (g.met.Q.Process.limits c.args.permit.now) (length c.args.rows.now) (length c.args.motions.now)
    (numbered search_number c.search_by-answer.result) c.fill_from.new.list c.fill_from-2.new.list (grind (arith, common_steps))
