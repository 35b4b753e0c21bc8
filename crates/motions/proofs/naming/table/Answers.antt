use Rattle.motions.proofs.Distinctness.{names_distinct}
use Rattle.motions.proofs.Lookups.{one_to_one}
use Rattle.motions.proofs.naming.table.Goals as goal

pub returns-clause-distinct : goal.returns-clause-distinct
returns-clause-distinct c = names_distinct

pub returns-clause-paired : goal.returns-clause-paired
returns-clause-paired c = one_to_one
