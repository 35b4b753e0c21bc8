use Rattle.task.specs.Plans.{first_plan, first_rows, second_plan, second_rows}
use Rattle.task.proofs.Computed.{worked_out}
use Rattle.task.proofs.History.{steps_account}
use Rattle.task.proofs.whole.one_task.Goals as goal

pub returns-clause-accounted : goal.returns-clause-accounted
returns-clause-accounted c = (first_plan, second_plan, first_rows, second_rows, steps_account c.unwrap.result.1 c.unwrap-2.result.1 _ (cc) (cc) c.drive_second.ensures.after)

pub returns-clause-plans : goal.returns-clause-plans
returns-clause-plans c = worked_out

pub returns-clause-accounts : goal.returns-clause-accounts
returns-clause-accounts c = steps_account c.unwrap.result.1 c.unwrap-2.result.1 _ (cc) (cc) c.drive_second.ensures.after
