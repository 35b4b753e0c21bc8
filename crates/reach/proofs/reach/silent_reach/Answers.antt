use Rattle.std.proofs.Common.{◌≡◌, ◌≤◌, sym, ap, ◌∙◌, arith}
use Rattle.std.proofs.lemmas.Bool.{eqb-true}
use Rattle.reach.specs.Reach.{rounds}
use Rattle.reach.proofs.Reaching.{reach_at}
use Rattle.reach.proofs.Rounds.{rounds_done}
use Rattle.reach.proofs.reach.silent_reach.Goals as goal

pub returns-then-eq : goal.returns-then-eq
returns-then-eq g c =
    let p = g.P.Process.meaning c.args.p.now in
    let L = g.met.P.Process.limits c.args.p.now in
    let h : c.loop-round._round ≤ p.states = omega arith in
    reach_at p L c.args.set.bits c.loop-round.all.bits
    (rounds_done p c.args.set.bits c.loop-round._round _ _ _ c.loop-round.invariant c.with_image-more.ensures
    (eqb-true _ _ (sym c.eq.ensures ∙ c.if-eq.true)) h)

pub returns : goal.returns
returns g c =
    let p = g.P.Process.meaning c.args.p.now in
    let L = g.met.P.Process.limits c.args.p.now in
    let h : c.loop-round._round ≡ p.states = omega arith in
    reach_at p L c.args.set.bits c.loop-round.all.bits (c.loop-round.invariant ∙ ap (rounds p c.args.set.bits) h)
