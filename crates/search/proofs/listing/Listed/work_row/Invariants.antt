use Rattle.std.proofs.Common.{◌≡◌}
use Rattle.reach.specs.Offers.{offers, rest_of}
use Rattle.search.specs.Listed.{listed, room, Grows}
use Rattle.search.specs.Rule.{ruled}
use Rattle.search.specs.Search.{Trial, try_moves}
use Rattle.search.proofs.listing.Listed.work_row.Given as goal

abbrev pub invariant-loop-m : goal.invariant-loop-m
invariant-loop-m g l =
    let p = g.P.Process.meaning l.asked.plan.now in
    let E = ruled p (g.F.Rule.begins l.asked.rule.now) (g.F.Rule.leads l.asked.rule.now) in
    record {
      grows : Grows l.initial.self l.self;
      left :
          ◌≡◌ {A = Trial} (try_moves E (room l.initial.self) l.i l.row (rest_of g.P.Process.meaning l.m-iterator) (listed l.self))
          (try_moves E (room l.initial.self) l.i l.row (offers p l.row.state) (listed l.initial.self));
    }
