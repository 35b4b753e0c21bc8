use Rattle.search.proofs.Holding.{laws_suffice}
use Rattle.search.proofs.theorems.laws_suffice.Goals as goal

pub returns : goal.returns
returns c = laws_suffice
