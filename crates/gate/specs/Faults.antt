-- The faults of a certificate, and the gate's answer as a verdict.
use Rattle.std.specs.Prelude.{ℕ, Ok, Err, Result}
use Rattle.common.specs.declared.fault.Located.{Located}
use Rattle.gate.specs.declared.fault.CertificateFault.{CertificateFault}
use Rattle.gate.specs.declared.fault.CertificateFault.TheVariants.{RowCount, BadRow, NoStart, Unanswered}
use Rattle.gate.specs.Gate.{Verdict, accepted, refused}

-- the number that each fault is known by
abbrev pub certificate_number : CertificateFault → ℕ
certificate_number RowCount = 43
certificate_number BadRow = 44
certificate_number NoStart = 45
certificate_number Unanswered = 46

-- an answer as a verdict: its fault by number, with its place
abbrev pub verdict_of : Result (Unit {0}) (Located CertificateFault) → Verdict
verdict_of (Ok u) = accepted
verdict_of (Err f) = refused (certificate_number f.fault) f.place
