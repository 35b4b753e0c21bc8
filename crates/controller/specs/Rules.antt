-- The controller's rules, said of the history; lawful histories.
use Rattle.std.specs.Prelude.{◌≡◌, ℕ, ◌+◌, ◌<◌, ◌≤◌, List, [], ◌∷◌, ◌++◌}
use Rattle.process.specs.Meaning.{Proc, Limits}
use Rattle.process.specs.Runs.{Trace}
use Rattle.certificate.specs.declared.Row.{Row}
use Rattle.gate.specs.Follow.{plain}
use Rattle.gate.specs.Gate.{gate, accepted, refused}
use Rattle.controller.specs.declared.fault.DriverFault.TheVariants.{RunOn, TooManyMoves, NoRun, UnknownMotion, StillWaiting, StaleSlip, NoNumberLeft, NotAllowed}
use Rattle.controller.specs.declared.run.Stage.{Stage}
use Rattle.controller.specs.declared.run.Stage.TheVariants.{Bare, Ready, Running, Waiting}
use Rattle.movetable.specs.Lists.{moves_in_all}
use Rattle.controller.specs.Histories.{Call, admit, start, release, done, failed, rest, Answer, granted, denied, driver, event, History, phase, released, releases, last_plan}

-- a run is on
abbrev pub On : Stage → Type 0
On Bare = ⊥
On Ready = ⊥
On Running = Unit {0}
On Waiting = Unit {0}

-- no run is on
abbrev pub Off : Stage → Type 0
Off Bare = Unit {0}
Off Ready = Unit {0}
Off Running = ⊥
Off Waiting = ⊥

-- the motions that the controller knows
abbrev pub Known : ℕ → Type 0
Known m = (1 ≤ m) × (m ≤ 24)

-- m may follow the released motions in the plan last admitted
abbrev pub Allowed : History → ℕ → Type 0
Allowed h m = Trace (last_plan h) (released h ++ m ∷ [])

-- the slip's number is the one that is waited for
abbrev pub Awaited : History → ℕ → Type 0
Awaited h k = (phase h ≡ Waiting) × (k ≡ releases h)

-- the answer to a call after the history h
pub data Rule (h : History) : Call → Answer → Type 0 where
  admit_on : {plan permit : Proc} {rows : List Row} → On (phase h) → Rule h (admit plan permit rows) (driver RunOn)
  admit_refused : {plan permit : Proc} {rows : List Row} {n i : ℕ} → Off (phase h) → gate plain plan permit rows ≡ refused n i
      → Rule h (admit plan permit rows) (denied n i)
  admit_many : {plan permit : Proc} {rows : List Row} → Off (phase h) → gate plain plan permit rows ≡ accepted → 256 < moves_in_all plan
      → Rule h (admit plan permit rows) (driver TooManyMoves)
  admit_granted : {plan permit : Proc} {rows : List Row} → Off (phase h) → gate plain plan permit rows ≡ accepted → moves_in_all plan ≤ 256
      → Rule h (admit plan permit rows) (granted 0)
  start_bare : phase h ≡ Bare → Rule h start (driver NoRun)
  start_on : On (phase h) → Rule h start (driver RunOn)
  start_granted : phase h ≡ Ready → Rule h start (granted 0)
  release_off : {m : ℕ} → Off (phase h) → Rule h (release m) (driver NoRun)
  release_waiting : {m : ℕ} → phase h ≡ Waiting → Rule h (release m) (driver StillWaiting)
  release_unknown : {m : ℕ} → phase h ≡ Running → (Known m → ⊥) → Rule h (release m) (driver UnknownMotion)
  release_beyond : {m : ℕ} → phase h ≡ Running → Known m → (Allowed h m → ⊥) → Rule h (release m) (driver NotAllowed)
  release_spent : {m : ℕ} → phase h ≡ Running → Known m → Allowed h m → 4294967295 ≤ releases h → Rule h (release m) (driver NoNumberLeft)
  release_granted : {m : ℕ} → phase h ≡ Running → Known m → Allowed h m → releases h < 4294967295 → Rule h (release m) (granted (releases h + 1))
  done_stale : {k : ℕ} → (Awaited h k → ⊥) → Rule h (done k) (driver StaleSlip)
  done_granted : {k : ℕ} → Awaited h k → Rule h (done k) (granted 0)
  failed_stale : {k : ℕ} → (Awaited h k → ⊥) → Rule h (failed k) (driver StaleSlip)
  failed_granted : {k : ℕ} → Awaited h k → Rule h (failed k) (granted 0)
  rest_off : Off (phase h) → Rule h rest (driver NoRun)
  rest_granted : On (phase h) → Rule h rest (granted 0)

-- every answer is the rule's after the calls before it
pub data Lawful : History → Type 0 where
  fresh : Lawful []
  more : {h : History} {k : Call} {a : Answer} → Lawful h → Rule h k a → Lawful (event k a ∷ h)

-- all calls of the list are so
abbrev pub All : (Call → Type 0) → List Call → Type 0
All P [] = Unit {0}
All P (k ∷ ks) = P k × All P ks

-- what an admit brings are processes: they keep their limits
abbrev pub Bounded : Call → Type 0
Bounded (admit plan permit rows) = Limits plan × Limits permit
Bounded start = Unit {0}
Bounded (release m) = Unit {0}
Bounded (done k) = Unit {0}
Bounded (failed k) = Unit {0}
Bounded rest = Unit {0}

-- the permit that a call brings, if it is an admit, is Q
abbrev pub Brings : Proc → Call → Type 0
Brings Q (admit plan permit rows) = permit ≡ Q
Brings Q start = Unit {0}
Brings Q (release m) = Unit {0}
Brings Q (done k) = Unit {0}
Brings Q (failed k) = Unit {0}
Brings Q rest = Unit {0}

-- the answer is a grant
abbrev pub IsGrant : Answer → Type 0
IsGrant (granted n) = Unit {0}
IsGrant (denied n i) = ⊥
