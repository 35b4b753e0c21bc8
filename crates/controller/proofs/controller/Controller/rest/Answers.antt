use Rattle.std.proofs.Common.{rules}
use Rattle.controller.proofs.Ties.{accounted}
use Rattle.controller.proofs.controller.Controller.rest.Goals as goal

pub returns-clause-accounted : goal.returns-clause-accounted
returns-clause-accounted c = accounted _ tt _ _ _ (search rules) (search rules)
