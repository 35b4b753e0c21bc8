use Rattle.formtable.specs.Table.{contents}
use Rattle.report.specs.Sizes.{sizes}
use Rattle.report.proofs.Findings.{stands_found, told_found, of_records}
use Rattle.report.proofs.outcome.searched.Goals as goal

pub returns-clause-stands : goal.returns-clause-stands
returns-clause-stands g c =
    let permit = g.Q.Process.meaning c.args.permit.now in
    let h = c.in_ok-outline.ensures in
    stands_found permit c.args.text (sizes c.args.records.now c.args.rows.now c.args.motions.now) c.in_ok-outline.outline c.read.new.records h.is h.vets
    (of_records permit (contents c.vet.new.self) _ h.vets c.vet.ensures.after c.in_ok-answer.ensures.exact)

pub returns-clause-told : goal.returns-clause-told
returns-clause-told g c =
    let h = c.in_ok-outline.ensures in
    told_found (g.Q.Process.meaning c.args.permit.now) c.args.text (sizes c.args.records.now c.args.rows.now c.args.motions.now) c.in_ok-outline.outline c.read.new.records h.is h.vets
    (g.met.Q.Process.limits c.args.permit.now) h.spells
