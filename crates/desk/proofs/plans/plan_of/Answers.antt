use Rattle.std.proofs.Common.{◌≡◌, ℕ, List, take, Ok, Err, Result, ap, ◌∙◌, refl}
use Rattle.std.proofs.Math.Seq.{take-append_seam}
use Rattle.std.specs.Borrow.{Bor}
use Rattle.common.specs.declared.fault.Located.{Located}
use Rattle.formtable.specs.Table.{contents, held}
use Rattle.formtable.specs.Vet.{verdict}
use Rattle.formtable.specs.declared.record.Record.{Record}
use Rattle.formtable.specs.declared.table.FormTable.{FormTable}
use Rattle.lexer.specs.declared.fault.TextFault.{TextFault}
use Rattle.reader.specs.Reading.{Outline, Told}
use Rattle.reader.specs.declared.reading.Plan.{Plan as Heading}
use Rattle.desk.specs.Plans.{Holds}
use Rattle.desk.proofs.plans.plan_of.Goals as goal

-- what was read and passes vetting is the plan's name and, in the table, its records
held_then : (text : Bor (List ℕ)) (r : Result Outline (Located TextFault)) (plan : Heading) (ys : List Record) (t : FormTable) → Told r text 64 (Ok plan) ys → verdict (take plan.count ys) ≡ Ok tt → contents t ≡ held (verdict (take plan.count ys)) (take plan.count ys) → (x : Outline) × (r ≡ Ok x) × Holds (record { name = plan.name; table = t }) x
held_then text (Err f) plan ys t told vets after = absurd told
held_then text (Ok x) plan ys t told vets after =
    let front : take plan.count ys ≡ x.rows = rw (told.0.all, told.1) (take-append_seam x.rows _) in
    (x, refl, record { name = told.0.letters; records = after ∙ ap (λ v. held v (take plan.count ys)) vets ∙ front })

pub returns : goal.returns
returns c = held_then _ _ _ _ _ c.in_ok-plan.ensures.is c.in_ok-plan.ensures.vets c.vet.ensures.after
