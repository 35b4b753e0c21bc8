use Rattle.std.proofs.Common.{refl}
use Rattle.reader.specs.Tokens.{next_tok}
use Rattle.worked.specs.Table.{lanes}
use Rattle.worked.proofs.Saying.{all_stand}
use Rattle.worked.proofs.lanes_stand.Goals as goal

pub returns-clause-stand : goal.returns-clause-stand
unfolding next_tok
returns-clause-stand c = all_stand lanes refl
