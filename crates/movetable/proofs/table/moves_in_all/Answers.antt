use Rattle.std.proofs.Common.{◌^◌, length, ◌∙◌, arith, rules, tests}
use Rattle.std.specs.List.{range_with_len}
use Rattle.std.proofs.lemmas.Iterator.{YieldsList-from_map, YieldsList-from_range}
use Rattle.std.proofs.lemmas.Iterator.Consumers.{sum_by_from_yields_List, fits_by_from_yields_list}
use Rattle.movetable.proofs.Copying.{by_state, few_below}
use Rattle.movetable.proofs.table.moves_in_all.Goals as goal

pub sum-requires-clause-fits : goal.sum-requires-clause-fits
sum-requires-clause-fits g c =
    let p = g.P.Process.meaning c.args.p.now in
    let L = g.met.P.Process.limits c.args.p.now in
    fits_by_from_yields_list (λ s. length (p.moves s)) (range_with_len 0 p.states) c.map.result (2 ^ 64)
    (YieldsList-from_map _ (λ s. length (p.moves s)) (YieldsList-from_range 0 p.states p.states (cc) (omega arith)) c.map.ensures.closure (λ x r q k. search (rules, tests)))
    (omega (arith, by_state p (range_with_len 0 p.states), few_below p L p.states, L.few_states))

pub returns : goal.returns
returns g c =
    let p = g.P.Process.meaning c.args.p.now in
    sum_by_from_yields_List (λ s. length (p.moves s)) (range_with_len 0 p.states) c.map.result c.sum.result c.sum.ensures.ran
    (YieldsList-from_map _ (λ s. length (p.moves s)) (YieldsList-from_range 0 p.states p.states (cc) (omega arith)) c.map.ensures.closure (λ x r q k. search (rules, tests)))
    ∙ by_state p (range_with_len 0 p.states)
