-- The steps of a task: each is what the controller's record answers, and all of them are a history of the controller.
use Rattle.std.specs.Prelude.{◌≡◌, ℕ, List, [], ◌∷◌, Some, None, Option, Ok, Err, Result}
use Rattle.std.specs.Option.{option_map}
use Rattle.common.specs.declared.fault.Located.{Located}
use Rattle.controller.specs.Accounts.{Accounts}
use Rattle.controller.specs.Faults.{admit_number}
use Rattle.controller.specs.Histories.{Call, start, release, done, failed, rest, Answer, granted, denied, event, History}
use Rattle.controller.specs.Record.{Record, answer, next}
use Rattle.controller.specs.declared.fault.AdmitFault.{AdmitFault}
use Rattle.controller.specs.declared.fault.AdmitFault.TheVariants.{Driver}
use Rattle.controller.specs.declared.fault.DriverFault.{DriverFault}
use Rattle.controller.specs.declared.slip.Slip.{Slip}
use Rattle.task.specs.declared.step.Asked.{Asked}
use Rattle.task.specs.declared.step.Asked.TheVariants.{AdmitFirst, AdmitSecond, Start, Release, Done, Failed, Rest}
use Rattle.task.specs.declared.step.Made.{Made}

-- a grant, with the number of its slip if it gives one, or a denial by a fault with its place
abbrev pub Reply : Type 0
Reply = Result (Option ℕ) (Located AdmitFault)

-- a driver's fault has place 0
abbrev pub unplaced : Result (Option ℕ) DriverFault → Reply
unplaced (Ok o) = Ok o
unplaced (Err f) = Err (record { fault = Driver f; place = 0 })

-- the answer that a reply tells
abbrev pub answer_of : Reply → Answer
answer_of (Ok None) = granted 0
answer_of (Ok (Some n)) = granted n
answer_of (Err f) = denied (admit_number f.fault) f.place

-- the number of the slip that a reply gives
abbrev pub slip_of : Reply → Option ℕ
slip_of (Ok o) = o
slip_of (Err f) = None

-- the number of the slip that an answer to a call gives; only a release gives one
abbrev pub slip_by : Call → Answer → Option ℕ
slip_by (release m) (granted n) = Some n
slip_by k x = None

-- the call that was asked for, where a and b are the two admissions
abbrev pub call_of : Call → Call → Asked → Call
call_of a b AdmitFirst = a
call_of a b AdmitSecond = b
call_of a b Start = start
call_of a b (Release m) = release m
call_of a b (Done k) = done k
call_of a b (Failed k) = failed k
call_of a b Rest = rest

-- the history after a step; a step that was left out adds nothing
abbrev pub stepped : Call → Call → Option Made → History → History
stepped a b (Some m) h = event (call_of a b m.asked) (answer_of m.reply) ∷ h
stepped a b None h = h

-- the history after steps in their order
abbrev pub through : Call → Call → List (Option Made) → History → History
through a b [] h = h
through a b (s ∷ ss) h = through a b ss (stepped a b s h)

-- the steps take each history that accounts for the record before to one that accounts for the record after
abbrev pub Steps : Call → Call → Record → List (Option Made) → Record → Type 0
Steps a b before ss after = (h : History) → Accounts h before → Accounts (through a b ss h) after

-- a call k that was asked for as q: its reply tells what the record c answers, and it leaves the record d
pub record Makes (q : Asked) (k : Call) (c : Record) (m : Made) (d : Record) : Type 0 where
  pub asked : m.asked ≡ q
  pub told : answer_of m.reply ≡ answer c k
  pub slip : slip_of m.reply ≡ slip_by k (answer c k)
  pub after : d ≡ next c k

-- the number of a slip, if there is one
abbrev pub number_of : Option Slip → Option ℕ
number_of o = option_map (λ s. s.number) o

-- a slip of number o is handed back, if there is one, from the record c on to the record d; without one nothing is asked
abbrev pub HandsBack : (ℕ → Asked) → (ℕ → Call) → Option ℕ → Record → Option Made → Record → Type 0
HandsBack q k (Some n) c (Some m) d = Makes (q n) (k n) c m d
HandsBack q k (Some n) c None d = ⊥
HandsBack q k None c s d = (s ≡ None) × (d ≡ c)
