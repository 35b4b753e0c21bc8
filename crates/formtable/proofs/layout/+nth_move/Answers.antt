use Rattle.std.proofs.Common.{◌≡◌, ◌+◌, ◌-◌, ◌++◌, Some, length, sym, ap, ◌∙◌, arith}
use Rattle.std.specs.List.{slice_get}
use Rattle.formtable.specs.Layout.{moves}
use Rattle.formtable.specs.Bounds.{vetted_near}
use Rattle.formtable.specs.Steps.{nth_left, nth_right}
use Rattle.formtable.specs.Vetted.{vetted_both}
use Rattle.formtable.proofs.layout.+nth_move.Goals as goal

pub nth_move-requires-else-k-left : goal.nth_move-requires-else-k-left
nth_move-requires-else-k-left t c =
    let b = vetted_both c.args.table.now c.args.i c.in-Or.r c.requires (rw c.in-Or.is at c.in_ok-form.ensures) in
    (omega (arith, b.0.above, b.0.right_within, c.decreases), c.requires)

pub returns-then-k-left : goal.returns-then-k-left
returns-then-k-left t c =
    let b = (vetted_both c.args.table.now c.args.i c.in-Or.r c.requires (rw c.in-Or.is at c.in_ok-form.ensures)).0 in
    rw b.moves_are (c.nth_move.ensures ∙ sym (nth_left _ _ c.args.k (omega (arith, c.if-k-left.true, c.count-left.ensures))))

pub returns-else-k-left : goal.returns-else-k-left
returns-else-k-left t c =
    let b = (vetted_both c.args.table.now c.args.i c.in-Or.r c.requires (rw c.in-Or.is at c.in_ok-form.ensures)).0 in
    let ms = moves c.args.table.now (c.args.i + 1) in
    let ns = moves c.args.table.now c.in-Or.r in
    let e : length ms + (c.args.k - c.count-left.result) ≡ c.args.k = omega (arith, c.count-left.ensures, c.if-k-left.false) in
    rw b.moves_are (c.nth_move-else-k-left.ensures ∙ sym (nth_right ms ns (c.args.k - c.count-left.result)) ∙ ap (slice_get (ms ++ ns)) e)

pub only_move-requires : goal.only_move-requires
only_move-requires t c = vetted_near c.args.table.now c.args.i c.requires (Some c.in_ok-form.form) c.in_ok-form.ensures
