use Rattle.std.proofs.Common.{rules, tests, eqb, ap, ◌∙◌, arith}
use Rattle.std.proofs.lemmas.Iterator.Consumers.{YieldsList-from_first, YieldsList-from_filter, YieldsList-at, fold_from_yields_List}
use Rattle.process.specs.Moves.{left_of}
use Rattle.reach.proofs.Folding.{with_target, targets_folded}
use Rattle.reach.proofs.reach.with_targets.Goals as goal

pub returns : goal.returns
returns g c =
    let p = g.P.Process.meaning c.args.p.now in
    let L = g.met.P.Process.limits c.args.p.now in
    ap (λ S. S.bits)
    (fold_from_yields_List _ with_target c.args.onto c.fold.result c.fold.ensures.ran
    (YieldsList-from_filter _ (λ m. eqb m.motion c.args.motion)
    (YieldsList-at c.filter.ensures.source (YieldsList-from_first (λ m. m) (left_of g.P.Process.meaning) (p.moves c.args.s) c.moves_of.ensures))
    c.filter.ensures.closure (λ m b q k. search (rules, tests)))
    (λ S m T q k. search (rules, tests)))
    ∙ targets_folded c.args.motion (p.moves c.args.s) c.args.onto (λ t h. omega (arith, L.targets_inside c.args.s c.args.motion t h, L.few_states))
