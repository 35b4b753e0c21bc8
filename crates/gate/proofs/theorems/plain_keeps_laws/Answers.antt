use Rattle.gate.proofs.Plain.{plain_laws, plain_holds}
use Rattle.gate.proofs.theorems.plain_keeps_laws.Goals as goal

pub returns : goal.returns
returns c = record { laws = plain_laws; holds = plain_holds }
