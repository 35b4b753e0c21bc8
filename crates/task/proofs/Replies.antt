-- A reply is the only one that tells its answer.
use Rattle.std.proofs.Common.{◌≡◌, ℕ, cond, eqb, Some, None, Ok, Err, refl, ap, subst}
use Rattle.gate.specs.declared.fault.CertificateFault.TheVariants.{RowCount, BadRow, NoStart, Unanswered}
use Rattle.controller.specs.Faults.{admit_number}
use Rattle.controller.specs.Histories.{Call, Answer, granted, denied}
use Rattle.controller.specs.declared.fault.AdmitFault.{AdmitFault}
use Rattle.controller.specs.declared.fault.AdmitFault.TheVariants.{Certificate, Driver}
use Rattle.controller.specs.declared.fault.DriverFault.TheVariants.{RunOn, TooManyMoves, NoRun, UnknownMotion, StillWaiting, StaleSlip, NoNumberLeft, NotAllowed}
use Rattle.task.specs.Steps.{Reply, answer_of, slip_of, slip_by}

-- the fault that a number tells
abbrev fault_by : ℕ → AdmitFault
fault_by n =
    cond (eqb n 43) (Certificate RowCount)
    (cond (eqb n 44) (Certificate BadRow)
    (cond (eqb n 45) (Certificate NoStart)
    (cond (eqb n 46) (Certificate Unanswered)
    (cond (eqb n 61) (Driver RunOn)
    (cond (eqb n 62) (Driver TooManyMoves)
    (cond (eqb n 63) (Driver NoRun)
    (cond (eqb n 64) (Driver UnknownMotion)
    (cond (eqb n 65) (Driver StillWaiting)
    (cond (eqb n 66) (Driver StaleSlip)
    (cond (eqb n 67) (Driver NoNumberLeft) (Driver NotAllowed)))))))))))

fault_back : (f : AdmitFault) → f ≡ fault_by (admit_number f)
fault_back (Certificate RowCount) = refl
fault_back (Certificate BadRow) = refl
fault_back (Certificate NoStart) = refl
fault_back (Certificate Unanswered) = refl
fault_back (Driver RunOn) = refl
fault_back (Driver TooManyMoves) = refl
fault_back (Driver NoRun) = refl
fault_back (Driver UnknownMotion) = refl
fault_back (Driver StillWaiting) = refl
fault_back (Driver StaleSlip) = refl
fault_back (Driver NoNumberLeft) = refl
fault_back (Driver NotAllowed) = refl

-- the reply to a call that has that answer
abbrev pub reply_to : Call → Answer → Reply
reply_to k (granted n) = Ok (slip_by k (granted n))
reply_to k (denied n i) = Err (record { fault = fault_by n; place = i })

pub reply_known : (k : Call) (x : Answer) (r : Reply) → answer_of r ≡ x → slip_of r ≡ slip_by k x → r ≡ reply_to k x
reply_known k x (Ok None) e s = subst (λ (y : Answer). None ≡ slip_by k y → Ok None ≡ reply_to k y) e (λ t. ap Ok t) s
reply_known k x (Ok (Some n)) e s = subst (λ (y : Answer). Some n ≡ slip_by k y → Ok (Some n) ≡ reply_to k y) e (λ t. ap Ok t) s
reply_known k x (Err f) e s =
    subst (λ (y : Answer). Err f ≡ reply_to k y) e (λ i. Err (record { fault = fault_back f.fault i; place = f.place }))
