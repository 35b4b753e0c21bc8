-- How the permit is followed: its set at the start, and its set after a motion. Gate and search take this as given.
use Rattle.std.specs.Prelude.{◌≡◌, ℕ, ◌<◌, ◌≤◌, Bool, true, ◌↔◌, [], ◌∷◌, ◌==◌}
use Rattle.process.specs.Meaning.{Proc, Limits, Steps}
use Rattle.process.specs.Runs.{Run}
use Rattle.process.specs.Sets.{only, In, Within}
use Rattle.reach.specs.Reach.{after}

pub record Follow : Type 0 where
  -- the set after motion a from the set T
  pub after : Proc → ℕ → ℕ → ℕ
  -- the set at the start
  pub start : Proc → ℕ
  -- the test of a start row's set
  pub begins : Proc → ℕ → Bool

-- all that gate and search need of it
pub record AfterLaws (F : Follow) : Type 0 where
  -- a state of After is reached from the set by a weak run of just that motion
  pub reached : (p : Proc) → Limits p → (T a t : ℕ) → 1 ≤ a → In (F.after p T a) t → (u : ℕ) × In T u × Run p u (a ∷ []) t
  -- a target of the motion from a state that the set silently reaches is in After
  pub targets_in : (p : Proc) → Limits p → (T u v a t : ℕ) → In T u → Run p u [] v → 1 ≤ a → Steps p v a t → In (F.after p T a) t
  -- state 0 is in the start set, and silently reaches each state of it
  pub first_in : (p : Proc) → Limits p → In (F.start p) 0
  pub silent_from : (p : Proc) → Limits p → (t : ℕ) → In (F.start p) t → Run p 0 [] t
  -- a set that is not empty passes the test of a start row just when it lies within the start set
  pub begins_within : (p : Proc) → Limits p → (S : ℕ) → 0 < S → (F.begins p S ≡ true) ↔ Within S (F.start p)

-- After is the targets of the motion from the silent reach; a start row has the set {0}
abbrev pub plain : Follow
plain = record { after = after; start = λ p. only 0; begins = λ p S. (S == only 0) }
