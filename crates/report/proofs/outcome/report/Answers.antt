use Rattle.report.specs.Finding.{found}
use Rattle.report.specs.Sizes.{sizes}
use Rattle.report.proofs.Saying.{reports}
use Rattle.report.proofs.outcome.report.Goals as goal

pub returns-else-is_err-2-clause-says : goal.returns-else-is_err-2-clause-says
returns-else-is_err-2-clause-says g c =
    let permit = g.Q.Process.meaning c.args.permit.now in
    let n = sizes c.args.records.now c.args.rows.now c.args.motions.now in
    reports permit c.args.text.now n.records (found permit c.args.text.now n) n c.searched-found.result _ _ _ _ _ _ c.searched-found.ensures.told c.searched-found.ensures.stands c.put_lines-written.ensures
