-- The controller's calls, their answers, histories, and what is read off a history.
use Rattle.std.specs.Prelude.{ℕ, ◌+◌, List, [], ◌∷◌, ◌++◌}
use Rattle.process.specs.Meaning.{Proc}
use Rattle.certificate.specs.declared.Row.{Row}
use Rattle.controller.specs.declared.fault.DriverFault.{DriverFault}
use Rattle.controller.specs.declared.run.Stage.{Stage}
use Rattle.controller.specs.declared.run.Stage.TheVariants.{Bare, Ready, Running, Waiting}
use Rattle.controller.specs.Faults.{driver_number}

-- the process with one state and no moves
abbrev pub idle : Proc
idle = record { states = 1; moves = λ s. [] }

-- admit brings a plan, a permit and a certificate; done and failed bring a slip's number
pub data Call : Type 0 where
  admit : Proc → Proc → List Row → Call
  start : Call
  release : ℕ → Call
  done : ℕ → Call
  failed : ℕ → Call
  rest : Call

-- a grant with its slip's number (0 where there is no slip), or a denial with its number and place
pub data Answer : Type 0 where
  granted : ℕ → Answer
  denied : ℕ → ℕ → Answer

-- a driver's fault has place 0
abbrev pub driver : DriverFault → Answer
driver f = denied (driver_number f) 0

-- a call and the answer to it
pub data Event : Type 0 where
  event : Call → Answer → Event

-- the newest event stands first
abbrev pub History : Type 0
History = List Event

-- the calls alone, the newest first
abbrev pub calls : History → List Call
calls [] = []
calls (event k a ∷ h) = k ∷ calls h

-- the stage, by the latest granted call
abbrev pub phase : History → Stage
phase [] = Bare
phase (event k (denied n i) ∷ h) = phase h
phase (event (admit plan permit rows) (granted n) ∷ h) = Ready
phase (event start (granted n) ∷ h) = Running
phase (event (release m) (granted n) ∷ h) = Waiting
phase (event (done k) (granted n) ∷ h) = Running
phase (event (failed k) (granted n) ∷ h) = Ready
phase (event rest (granted n) ∷ h) = Ready

-- the motions released since the latest granted start, in order
abbrev pub released : History → List ℕ
released [] = []
released (event k (denied n i) ∷ h) = released h
released (event (admit plan permit rows) (granted n) ∷ h) = released h
released (event start (granted n) ∷ h) = []
released (event (release m) (granted n) ∷ h) = released h ++ m ∷ []
released (event (done k) (granted n) ∷ h) = released h
released (event (failed k) (granted n) ∷ h) = released h
released (event rest (granted n) ∷ h) = released h

-- how many releases were granted
abbrev pub releases : History → ℕ
releases [] = 0
releases (event k (denied n i) ∷ h) = releases h
releases (event (admit plan permit rows) (granted n) ∷ h) = releases h
releases (event start (granted n) ∷ h) = releases h
releases (event (release m) (granted n) ∷ h) = releases h + 1
releases (event (done k) (granted n) ∷ h) = releases h
releases (event (failed k) (granted n) ∷ h) = releases h
releases (event rest (granted n) ∷ h) = releases h

-- the plan last admitted; before any, one state without moves
abbrev pub last_plan : History → Proc
last_plan [] = idle
last_plan (event k (denied n i) ∷ h) = last_plan h
last_plan (event (admit plan permit rows) (granted n) ∷ h) = plan
last_plan (event start (granted n) ∷ h) = last_plan h
last_plan (event (release m) (granted n) ∷ h) = last_plan h
last_plan (event (done k) (granted n) ∷ h) = last_plan h
last_plan (event (failed k) (granted n) ∷ h) = last_plan h
last_plan (event rest (granted n) ∷ h) = last_plan h

-- whether a run was ever started, and the plan in force at the latest start
pub data Began : Type 0 where
  never : Began
  under : Proc → Began

-- the plan in force at the latest granted start, if there was one
abbrev pub began : History → Began
began [] = never
began (event k (denied n i) ∷ h) = began h
began (event (admit plan permit rows) (granted n) ∷ h) = began h
began (event start (granted n) ∷ h) = under (last_plan h)
began (event (release m) (granted n) ∷ h) = began h
began (event (done k) (granted n) ∷ h) = began h
began (event (failed k) (granted n) ∷ h) = began h
began (event rest (granted n) ∷ h) = began h
