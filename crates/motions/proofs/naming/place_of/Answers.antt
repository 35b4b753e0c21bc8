use Rattle.motions.proofs.Lookups.{found_is}
use Rattle.motions.proofs.naming.place_of.Goals as goal

pub returns-clause-is : goal.returns-clause-is
returns-clause-is c = found_is c.table.result.now c.args.word.now c.find_first.result c.table.ensures.is c.find_first.ensures
