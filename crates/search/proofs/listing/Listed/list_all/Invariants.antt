use Rattle.std.proofs.Common.{◌-◌, ◌≤◌}
use Rattle.search.specs.Listed.{Grows}
use Rattle.search.specs.Rule.{ruled}
use Rattle.search.proofs.Works.{Leads}
use Rattle.search.proofs.listing.Listed.list_all.Given as goal

abbrev pub invariant-loop-i : goal.invariant-loop-i
invariant-loop-i g l =
    let E = ruled (g.P.Process.meaning l.asked.plan.now) (g.F.Rule.begins l.asked.rule.now) (g.F.Rule.leads l.asked.rule.now) in
    record { grows : Grows l.fn.self l.self; reached : l.i ≤ l.self.count; left : Leads E l.i l.self }

abbrev pub decreases-loop-i : goal.decreases-loop-i
decreases-loop-i g l = 1024 - l.i
