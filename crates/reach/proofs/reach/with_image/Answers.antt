use Rattle.std.proofs.Common.{rules, tests, ap, ◌∙◌, arith}
use Rattle.std.proofs.lemmas.Iterator.{YieldsList-from_range}
use Rattle.std.proofs.lemmas.Iterator.Consumers.{YieldsList-from_filter, YieldsList-at, fold_from_yields_List}
use Rattle.process.specs.Sets.{has}
use Rattle.reach.proofs.Folding.{with_state, image_folded}
use Rattle.reach.proofs.reach.with_image.Goals as goal

pub returns : goal.returns
returns g c =
    let p = g.P.Process.meaning c.args.p.now in
    ap (λ S. S.bits)
    (fold_from_yields_List _ (with_state p c.args.motion) c.args.onto c.fold.result c.fold.ensures.ran
    (YieldsList-from_filter _ (has c.args.from.bits) (YieldsList-at c.filter.ensures.source (YieldsList-from_range 0 p.states p.states (cc) (omega arith)))
    c.filter.ensures.closure (λ s b q k. search (rules, tests)))
    (λ S s T q k. search (rules, tests)))
    ∙ image_folded p c.args.motion c.args.from.bits p.states c.args.onto
