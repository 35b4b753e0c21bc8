use Rattle.std.proofs.Common.{◌==◌, sym, ap, ◌∙◌, rules, tests}
use Rattle.std.specs.Iterator.Adapters.{filter_callee}
use Rattle.std.proofs.lemmas.Iterator.{YieldsList-from_map, YieldsList-from_slice}
use Rattle.std.proofs.lemmas.Iterator.Consumers.{nth_from_yields_List, YieldsList-from_filter}
use Rattle.std.proofs.lemmas.Iterator.Adapters.{option_map_id}
use Rattle.rowtable.specs.Rows.{move_of}
use Rattle.rowtable.specs.declared.transition.Transition.{Transition}
use Rattle.rowtable.proofs.rows.RowsProcess.move_at.Goals as goal

pub returns : goal.returns
returns c =
    sym (option_map_id c.nth.result)
    ∙ nth_from_yields_List c.nth.result _ c.args.k c.nth.ensures.ran
    (YieldsList-from_map _ move_of
    (YieldsList-from_filter _ (λ (r : Transition). r.from == c.args.s) (YieldsList-from_slice c.args.self.now.rows.now (cc)) (ap filter_callee c.map.ensures.source ∙ c.filter.ensures.closure) (λ x b q k. search (rules, tests)))
    c.map.ensures.closure (λ x b q k. search (rules, tests)))
