-- The silent reach of a set of states, and its After by a motion, as functions that compute.
use Rattle.std.specs.Prelude.{ℕ, zero, suc, ◌≤◌, true, false, List, [], ◌∷◌, ◌==◌, bit_or}
use Rattle.process.specs.Meaning.{Proc}
use Rattle.process.specs.Sets.{has, only}
use Rattle.process.specs.declared.moves.Move.{Move}

-- the targets of motion a in a list of moves
abbrev pub targets : ℕ → List Move → ℕ
targets a [] = 0
targets a (m ∷ ms) = elim (m.motion == a) [ true ↦ bit_or (only m.target) (targets a ms) | false ↦ targets a ms ]

-- the targets of motion a from the states below k of the set T
abbrev pub image_to : Proc → ℕ → ℕ → ℕ → ℕ
image_to p a T zero = 0
image_to p a T (suc k) = elim (has T k) [ true ↦ bit_or (targets a (p.moves k)) (image_to p a T k) | false ↦ image_to p a T k ]

-- the targets of motion a from the states of the set T
abbrev pub image : Proc → ℕ → ℕ → ℕ
image p a T = image_to p a T p.states

-- T with the targets of its silent steps
abbrev pub grow : Proc → ℕ → ℕ
grow p T = bit_or T (image p 0 T)

-- T after k rounds of silent steps
abbrev pub rounds : Proc → ℕ → ℕ → ℕ
rounds p T zero = T
rounds p T (suc k) = grow p (rounds p T k)

-- the silent reach of T: as many rounds as there are states
abbrev pub silent_reach : Proc → ℕ → ℕ
silent_reach p T = rounds p T p.states

-- the targets of motion a from the silent reach of T
abbrev pub after : Proc → ℕ → ℕ → ℕ
after p T a = image p a (silent_reach p T)

-- After, motion by motion
abbrev pub after_all : Proc → ℕ → List ℕ → ℕ
after_all p T [] = T
after_all p T (a ∷ w) = after_all p (after p T a) w

-- none of the motions is the silent one
abbrev pub NoneSilent : List ℕ → Type 0
NoneSilent [] = Unit {0}
NoneSilent (a ∷ w) = (1 ≤ a) × NoneSilent w
