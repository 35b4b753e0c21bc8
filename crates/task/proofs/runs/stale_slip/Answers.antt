use Rattle.std.proofs.Common.{[], ◌∷◌, Some, ◌∙◌}
use Rattle.task.proofs.Chain.{from, back_from}
use Rattle.task.proofs.History.{stale_slip_counts, run_made}
use Rattle.task.proofs.runs.stale_slip.Goals as goal

pub returns : goal.returns
returns c =
    let again = from c.start-again.ensures c.requires in
    let enter = from c.release-slip4.ensures.made again.after in
    let rested = from c.rest-rested.ensures enter.after in
    let next = from c.start-next.ensures rested.after in
    let entered = back_from c.done-entered.ensures (c.release-slip4.ensures.slip ∙ enter.slip) next.after in
    run_made stale_slip_counts c.requires
    (λ i. Some (again.step i) ∷ Some (enter.step i) ∷ Some (rested.step i) ∷ Some (next.step i) ∷ entered.step i ∷ [])
    entered.after
