use Rattle.std.proofs.Common.{sym, ◌∙◌, rules, tests}
use Rattle.std.proofs.lemmas.Iterator.{YieldsList-from_slice}
use Rattle.std.proofs.lemmas.Iterator.Search.{all_from_yields_List}
use Rattle.rowtable.specs.Rows.{ok_row}
use Rattle.rowtable.specs.Tables.{accepted}
use Rattle.rowtable.proofs.rows.Rows.vetted.Goals as goal

pub invariant_of-result : goal.invariant_of-result
invariant_of-result c =
    let e = sym (all_from_yields_List (ok_row c.args.states) _ _ c.all.result c.all.ensures.ran (YieldsList-from_slice c.args.rows.now (cc)) (λ x b q k. search (rules, tests))) ∙ c.if-not-all.false in
    record { ok = accepted c.args.states c.args.rows.now (search rules) }
