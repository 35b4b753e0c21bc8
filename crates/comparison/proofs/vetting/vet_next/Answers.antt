use Rattle.std.proofs.Common.{sym}
use Rattle.comparison.proofs.vetting.vet_next.Goals as goal

pub returns : goal.returns
returns c = (c.in_ok-raw.raw, c.in_ok-raw.ensures.ok, sym c.vet_into.ensures.answer, c.vet_into.ensures.after)
