-- The answers of the calls, as they stand in a history.
use Rattle.std.specs.Prelude.{◌≡◌, false, Ok, Err, Result}
use Rattle.common.specs.declared.fault.Located.{Located}
use Rattle.controller.specs.declared.fault.AdmitFault.{AdmitFault}
use Rattle.controller.specs.declared.fault.DriverFault.{DriverFault}
use Rattle.controller.specs.declared.slip.Slip.{Slip}
use Rattle.controller.specs.Faults.{admit_number}
use Rattle.controller.specs.Histories.{Answer, granted, denied, driver}

-- a grant without a slip
abbrev pub plain_told : Result (Unit {0}) DriverFault → Answer
plain_told (Ok u) = granted 0
plain_told (Err f) = driver f

-- a grant with a slip
abbrev pub slip_told : Result Slip DriverFault → Answer
slip_told (Ok s) = granted s.number
slip_told (Err f) = driver f

-- a slip that is given is not yet spent
abbrev pub Unspent : Result Slip DriverFault → Type 0
Unspent (Ok s) = s.spent ≡ false
Unspent (Err f) = Unit {0}

-- an admission: its fault with number and place
abbrev pub admit_told : Result (Unit {0}) (Located AdmitFault) → Answer
admit_told (Ok u) = granted 0
admit_told (Err f) = denied (admit_number f.fault) f.place
