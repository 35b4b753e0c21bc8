use Rattle.std.proofs.Common.{◌+◌, Some, sym, ap, ◌∙◌, add-one, arith}
use Rattle.formtable.specs.Steps.{known_within, past_above, past_inner, past_left_fails, past_left_other, past_left_meets}
use Rattle.formtable.proofs.layout.+past.Goals as goal

pub returns-in_err-left-in-Or : goal.returns-in_err-left-in-Or
returns-in_err-left-in-Or t c =
    let at = ap Some (sym c.in-Or.is) ∙ c.in_ok-form_at.ensures in
    c.from_residual-in_err-left-in-Or.ensures ∙ sym (past_left_fails c.args.table.now c.args.i c.in-Or.r at (rw add-one at (sym c.in_err-left-in-Or.ensures)))

pub returns-then-left-r : goal.returns-then-left-r
returns-then-left-r t c =
    let at = ap Some (sym c.in-Or.is) ∙ c.in_ok-form_at.ensures in
    sym (past_left_other c.args.table.now c.args.i c.in-Or.r c.in_ok-left-in-Or.left at (rw add-one at (sym c.in_ok-left-in-Or.ensures)) c.if-left-r.true)

pub past-requires-in-Or-2 : goal.past-requires-in-Or-2
past-requires-in-Or-2 t c =
    let within = known_within c.args.table.now c.args.i c.in_ok-form_at.field-0 (sym c.in_ok-form_at.ensures) in
    let above = past_above c.args.table.now (c.args.i + 1) c.in_ok-left-in-Or.left (sym c.in_ok-left-in-Or.ensures) in
    omega (arith, within, above, c.decreases)

pub returns-in-Do : goal.returns-in-Do
returns-in-Do t c =
    (rw add-one at c.past.ensures) ∙ sym (past_inner c.args.table.now c.args.i c.in_ok-form_at.field-0 c.in_ok-form_at.ensures c.in-Do.is)

pub returns-else-left-r : goal.returns-else-left-r
returns-else-left-r t c =
    let at = ap Some (sym c.in-Or.is) ∙ c.in_ok-form_at.ensures in
    c.past-in-Or-2.ensures
    ∙ sym (past_left_meets c.args.table.now c.args.i c.in-Or.r c.in_ok-left-in-Or.left at (rw add-one at (sym c.in_ok-left-in-Or.ensures)) c.if-left-r.false)
