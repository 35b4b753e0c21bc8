use Rattle.process.proofs.Members.{set_laws}
use Rattle.process.proofs.sets.StateSet.union.Goals as goal

pub returns : goal.returns
returns c = record { value = c.either.ensures; laws = set_laws }
