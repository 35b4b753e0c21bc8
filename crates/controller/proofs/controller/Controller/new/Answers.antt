use Rattle.std.proofs.Common.{rules}
use Rattle.controller.proofs.Answering.{every_list}
use Rattle.controller.proofs.Ties.{new_accounts}
use Rattle.controller.proofs.controller.Controller.new.Goals as goal

pub returns-clause-accounts : goal.returns-clause-accounts
returns-clause-accounts c = new_accounts _ (search rules)

pub returns-clause-every : goal.returns-clause-every
returns-clause-every c = every_list
