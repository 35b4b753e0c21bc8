use Rattle.std.proofs.Common.{arith}
use Rattle.formtable.specs.Vetted.{vetted_both}
use Rattle.formtable.proofs.layout.+count.Goals as goal

pub count-requires-in-Some-Or : goal.count-requires-in-Some-Or
count-requires-in-Some-Or t c =
    let b = vetted_both c.args.table.now c.args.i c.in-Some-Or.r c.requires (rw c.in-Some-Or.field-0-is at c.in-Some-Or.ensures) in
    (omega (arith, b.0.above, b.0.right_within, c.decreases), c.requires)

pub overflow_add-result : goal.overflow_add-result
overflow_add-result t c =
    let b = vetted_both c.args.table.now c.args.i c.in-Some-Or.r c.requires (rw c.in-Some-Or.field-0-is at c.in-Some-Or.ensures) in
    omega (arith, b.0.long, b.0.few, b.1, c.count.ensures, c.count-in-Some-Or.ensures)

pub returns-in-Some-Or : goal.returns-in-Some-Or
returns-in-Some-Or t c =
    let b = vetted_both c.args.table.now c.args.i c.in-Some-Or.r c.requires (rw c.in-Some-Or.field-0-is at c.in-Some-Or.ensures) in
    omega (arith, b.0.long, c.count.ensures, c.count-in-Some-Or.ensures)
