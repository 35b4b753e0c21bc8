use Rattle.gate.proofs.Judging.{refusals_told}
use Rattle.gate.proofs.Soundness.{laws_suffice}
use Rattle.gate.proofs.theorems.laws_suffice.Goals as goal

pub returns : goal.returns
returns c = record { holds = laws_suffice; refusals = refusals_told }
