-- What is proved of the gate, for every way to follow the permit that keeps the laws of After.
use Rattle.std.specs.Prelude.{◌≡◌, ℕ, ◌↔◌, List}
use Rattle.process.specs.Meaning.{Proc, Limits}
use Rattle.process.specs.Runs.{Trace}
use Rattle.certificate.specs.declared.Row.{Row}
use Rattle.gate.specs.Follow.{Follow, AfterLaws}
use Rattle.gate.specs.Gate.{accepted, gate, Justifies, Certifies}

-- each trace of the plan is a trace of the permit
abbrev pub Included : Proc → Proc → Type 0
Included plan permit = (w : List ℕ) → Trace plan w → Trace permit w

-- the gate accepts just what certifies the plan
abbrev pub GateExact : Follow → Type 0
GateExact F =
    (plan permit : Proc) → Limits plan → Limits permit → (rows : List Row)
    → (gate F plan permit rows ≡ accepted) ↔ Certifies F plan permit rows

-- where the gate accepts, the traces are included
abbrev pub GateSound : Follow → Type 0
GateSound F =
    (plan permit : Proc) → Limits plan → Limits permit → (rows : List Row)
    → gate F plan permit rows ≡ accepted → Included plan permit

-- rows that justify the plan do so too, whatever their number
abbrev pub RowsSound : Follow → Type 0
RowsSound F =
    (plan permit : Proc) → Limits plan → Limits permit → (rows : List Row)
    → Justifies F plan permit rows → Included plan permit

-- all of it for one way to follow the permit
pub record GateHolds (F : Follow) : Type 0 where
  pub gate_exact : GateExact F
  pub gate_sound : GateSound F
  pub rows_sound : RowsSound F

-- the laws of After suffice
abbrev pub LawsSuffice : Type 0
LawsSuffice = (F : Follow) → AfterLaws F → GateHolds F
