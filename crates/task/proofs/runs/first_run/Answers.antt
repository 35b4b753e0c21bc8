use Rattle.std.proofs.Common.{[], ◌∷◌, Some, ◌∙◌}
use Rattle.task.proofs.Chain.{from_as, from, back_from}
use Rattle.task.proofs.History.{first_run_counts, run_made}
use Rattle.task.proofs.runs.first_run.Goals as goal

pub returns : goal.returns
returns g c =
    let admitted = from_as c.admit-admitted.ensures c.requires.admission c.requires.fresh in
    let started = from c.start-started.ensures admitted.after in
    let enter = from c.release-slip1.ensures.made started.after in
    let entered = back_from c.done-entered.ensures (c.release-slip1.ensures.slip ∙ enter.slip) enter.after in
    let fwd = from c.release-slip2.ensures.made entered.after in
    let moved = back_from c.done-moved.ensures (c.release-slip2.ensures.slip ∙ fwd.slip) fwd.after in
    let lift = from c.release-none.ensures.made moved.after in
    let lifted = back_from c.done-lifted.ensures (c.release-none.ensures.slip ∙ lift.slip) lift.after in
    let leave = from c.release-slip3.ensures.made lifted.after in
    let left = back_from c.failed-left.ensures (c.release-slip3.ensures.slip ∙ leave.slip) leave.after in
    run_made first_run_counts c.requires.fresh
    (λ i.
    Some (admitted.step i)
    ∷ Some (started.step i)
    ∷ Some (enter.step i)
    ∷ entered.step i
    ∷ Some (fwd.step i)
    ∷ moved.step i
    ∷ Some (lift.step i)
    ∷ lifted.step i
    ∷ Some (leave.step i)
    ∷ left.step i
    ∷ [])
    left.after
