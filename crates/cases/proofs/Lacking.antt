-- Where a line has ended, it lacks every number.
use Rattle.std.proofs.Common.{ℕ, List, subst, sym}
use Rattle.cases.specs.Reading.{Ended, LacksNumber}
use Rattle.cases.specs.declared.numbers.LineFault.{LineFault}

pub lacks_at_end : (bits : ℕ) (old : List ℕ) (e : LineFault) → Ended old e → LacksNumber bits old e
lacks_at_end bits old e h = subst (λ (ns : List ℕ). LacksNumber bits ns e) (sym h.0) h.1
