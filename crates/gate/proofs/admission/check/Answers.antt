use Rattle.gate.specs.Faults.{verdict_of}
use Rattle.gate.proofs.Plain.{verdict_tells}
use Rattle.gate.proofs.admission.check.Goals as goal

pub returns : goal.returns
returns g c =
    verdict_tells (g.P.Process.meaning c.args.plan.now) (g.Q.Process.meaning c.args.permit.now)
    (g.met.P.Process.limits c.args.plan.now) (g.met.Q.Process.limits c.args.permit.now) c.args.rows.now (verdict_of c.all_tests.result)
    c.all_tests.ensures
