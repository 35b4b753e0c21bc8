-- The numbers of the controller's faults.
use Rattle.std.specs.Prelude.{ℕ}
use Rattle.gate.specs.Faults.{certificate_number}
use Rattle.controller.specs.declared.fault.AdmitFault.{AdmitFault}
use Rattle.controller.specs.declared.fault.AdmitFault.TheVariants.{Certificate, Driver}
use Rattle.controller.specs.declared.fault.DriverFault.{DriverFault}
use Rattle.controller.specs.declared.fault.DriverFault.TheVariants.{RunOn, TooManyMoves, NoRun, UnknownMotion, StillWaiting, StaleSlip, NoNumberLeft, NotAllowed}

-- the number that each fault of a driver is known by
abbrev pub driver_number : DriverFault → ℕ
driver_number RunOn = 61
driver_number TooManyMoves = 62
driver_number NoRun = 63
driver_number UnknownMotion = 64
driver_number StillWaiting = 65
driver_number StaleSlip = 66
driver_number NoNumberLeft = 67
driver_number NotAllowed = 68

-- a refused admission has the number of the fault behind it
abbrev pub admit_number : AdmitFault → ℕ
admit_number (Certificate f) = certificate_number f
admit_number (Driver f) = driver_number f
