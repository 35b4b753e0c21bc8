-- What holds of every list of calls.
use Rattle.std.specs.Prelude.{◌≡◌, ℕ, ◌<◌, ◌⊎◌, ◌↔◌, List, [], ◌∷◌}
use Rattle.process.specs.Meaning.{Proc}
use Rattle.process.specs.Runs.{Trace}
use Rattle.controller.specs.declared.run.Stage.TheVariants.{Running}
use Rattle.controller.specs.Histories.{Call, admit, start, release, done, failed, rest, Answer, granted, denied, event, History, calls, phase, released, releases}
use Rattle.controller.specs.Rules.{Known, Allowed, Lawful, All, Bounded, Brings, IsGrant}

-- every list of calls, the newest first, has exactly one lawful history
abbrev pub OneHistory : Type 0
OneHistory = (ks : List Call) → All Bounded ks → (h : History) × (calls h ≡ ks) × Lawful h × ((g : History) → calls g ≡ ks → Lawful g → g ≡ h)

-- after every lawful history the released motions are a trace of the permit that all admits bring
abbrev pub Permitted : Type 0
Permitted = (h : History) → Lawful h → All Bounded (calls h) → (Q : Proc) → All (Brings Q) (calls h) → Trace Q (released h)

-- while running with releases left, a known motion is released exactly when the plan last admitted allows it
abbrev pub JustAllowed : Type 0
JustAllowed = (h : History) (m : ℕ) (a : Answer) → Lawful (event (release m) a ∷ h) → phase h ≡ Running → releases h < 4294967295 → Known m → IsGrant a ↔ Allowed h m

-- the latest granted call is a release, and its slip has number k
abbrev pub Latest : History → ℕ → Type 0
Latest [] k = ⊥
Latest (event j (denied n i) ∷ h) k = Latest h k
Latest (event (admit plan permit rows) (granted n) ∷ h) k = ⊥
Latest (event start (granted n) ∷ h) k = ⊥
Latest (event (release m) (granted n) ∷ h) k = n ≡ k
Latest (event (done j) (granted n) ∷ h) k = ⊥
Latest (event (failed j) (granted n) ∷ h) k = ⊥
Latest (event rest (granted n) ∷ h) k = ⊥

-- some granted release gave a slip with number k
abbrev pub Gave : History → ℕ → Type 0
Gave [] k = ⊥
Gave (event j (denied n i) ∷ h) k = Gave h k
Gave (event (admit plan permit rows) (granted n) ∷ h) k = Gave h k
Gave (event start (granted n) ∷ h) k = Gave h k
Gave (event (release m) (granted n) ∷ h) k = (n ≡ k) ⊎ Gave h k
Gave (event (done j) (granted n) ∷ h) k = Gave h k
Gave (event (failed j) (granted n) ∷ h) k = Gave h k
Gave (event rest (granted n) ∷ h) k = Gave h k

-- done and failed are granted exactly for the slip of the latest granted call; a granted release gives a number above all given before
pub record SlipsOnce : Type 0 where
  pub done_latest : (h : History) (k : ℕ) (a : Answer) → Lawful (event (done k) a ∷ h) → IsGrant a ↔ Latest h k
  pub failed_latest : (h : History) (k : ℕ) (a : Answer) → Lawful (event (failed k) a ∷ h) → IsGrant a ↔ Latest h k
  pub new_number : (h : History) (m n : ℕ) → Lawful (event (release m) (granted n) ∷ h) → (k : ℕ) → Gave h k → k < n

-- all of it
pub record EveryList : Type 0 where
  pub one_history : OneHistory
  pub safe : Permitted
  pub fair : JustAllowed
  pub slips : SlipsOnce
