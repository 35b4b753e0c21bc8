-- What a process means, and its limits.
use Rattle.std.specs.Prelude.{◌≡◌, ℕ, ◌<◌, ◌≤◌, ◌⊎◌, List, [], ◌∷◌, length}
use Rattle.process.specs.declared.moves.Move.{Move}

-- a number of states and, for each, a list of moves; state 0 is the first
pub record Proc : Type 0 where
  pub states : ℕ
  pub moves : ℕ → List Move

-- the list has a move by motion a to t
abbrev pub HasMove : List Move → ℕ → ℕ → Type 0
HasMove [] a t = ⊥
HasMove (m ∷ ms) a t = ((m.motion ≡ a) × (m.target ≡ t)) ⊎ HasMove ms a t

-- state s moves by motion a to t
abbrev pub Steps : Proc → ℕ → ℕ → ℕ → Type 0
Steps p s a t = HasMove (p.moves s) a t

-- the limits that every process keeps
pub record Limits (p : Proc) : Type 0 where
  pub some_state : 1 ≤ p.states
  pub few_states : p.states ≤ 64
  pub known_motions : (s a t : ℕ) → Steps p s a t → a ≤ 24
  pub targets_inside : (s a t : ℕ) → Steps p s a t → t < p.states
  pub short_lists : (s : ℕ) → length (p.moves s) ≤ 255
  pub none_beyond : (s : ℕ) → p.states ≤ s → p.moves s ≡ []
