use Rattle.std.proofs.Common.{◌≤◌, arith}
use Rattle.reach.proofs.Offering.{here_place, cursor_gives, cursor_goes_on, cursor_ends}
use Rattle.reach.proofs.offers.Offers.next.Goals as goal

pub pass_move-requires : goal.pass_move-requires
pass_move-requires g c =
    here_place (g.P.Process.meaning c.args.p.now) (g.met.P.Process.limits c.args.p.now)
    c.loop-self.self.set.bits c.loop-self.self.state c.loop-self.self.at c.in-Some.m c.in-Some.ensures

pub returns-in-Some : goal.returns-in-Some
returns-in-Some g c =
    cursor_gives (g.P.Process.meaning c.args.p.now) (g.met.P.Process.limits c.args.p.now)
    c.loop-self.self c.pass_move.new.self c.in-Some.m _ c.loop-self.invariant c.in-Some.ensures c.pass_move.ensures

pub loop-self-preserved : goal.loop-self-preserved
loop-self-preserved g c =
    cursor_goes_on (g.P.Process.meaning c.args.p.now) (g.met.P.Process.limits c.args.p.now)
    c.loop-self.self c.pass_state.new.self _ c.loop-self.invariant c.in_default.ensures c.pass_state.ensures

pub returns : goal.returns
returns g c =
    let p = g.P.Process.meaning c.args.p.now in
    let l : p.states ≤ c.loop-self.self.state = omega arith in
    cursor_ends p (g.met.P.Process.limits c.args.p.now) c.loop-self.self _ c.loop-self.invariant l
