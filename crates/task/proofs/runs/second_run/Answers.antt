use Rattle.std.proofs.Common.{[], ◌∷◌, Some, ◌∙◌}
use Rattle.task.proofs.Chain.{from_as, from, back_from}
use Rattle.task.proofs.History.{second_run_counts, run_made}
use Rattle.task.proofs.runs.second_run.Goals as goal

pub returns : goal.returns
returns g c =
    let over = from c.rest-over.ensures c.requires.before in
    let admitted = from_as c.admit-admitted.ensures c.requires.admission over.after in
    let started = from c.start-started.ensures admitted.after in
    let enter = from c.release-slip5.ensures.made started.after in
    let entered = back_from c.done-entered.ensures (c.release-slip5.ensures.slip ∙ enter.slip) enter.after in
    let lift = from c.release-slip6.ensures.made entered.after in
    let lifted = back_from c.done-lifted.ensures (c.release-slip6.ensures.slip ∙ lift.slip) lift.after in
    run_made second_run_counts c.requires.before
    (λ i. Some (over.step i) ∷ Some (admitted.step i) ∷ Some (started.step i) ∷ Some (enter.step i) ∷ entered.step i ∷ Some (lift.step i) ∷ lifted.step i ∷ [])
    lifted.after
