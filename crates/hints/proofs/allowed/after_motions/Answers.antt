use Rattle.std.proofs.Common.{◌≡◌, ap, ◌∙◌, rules, tests}
use Rattle.std.proofs.lemmas.Iterator.{YieldsList-from_slice}
use Rattle.std.proofs.lemmas.Iterator.Consumers.{fold_from_yields_List}
use Rattle.process.specs.Sets.{only}
use Rattle.process.specs.declared.sets.StateSet.{StateSet}
use Rattle.reach.specs.Reach.{after, after_all}
use Rattle.hints.proofs.Allowing.{folded}
use Rattle.hints.proofs.allowed.after_motions.Goals as goal

pub returns : goal.returns
returns g c =
    let p = g.P.Process.meaning c.args.p.now in
    let w = c.args.motions.now in
    let first : c.single.result.bits ≡ only 0 = search rules in
    ap (λ (t : StateSet). t.bits)
    (fold_from_yields_List _ (λ t m. record { bits = after p t.bits m }) c.single.result c.fold.result c.fold.ensures.ran
    (YieldsList-from_slice w (cc))
    (λ t x b q k. search (rules, tests)))
    ∙ folded p c.single.result w
    ∙ ap (λ T. after_all p T w) first
