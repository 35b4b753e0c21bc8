-- The moves that a state offers: those of the states that it silently reaches.
use Rattle.std.specs.Prelude.{◌≡◌, ℕ, zero, suc, ◌+◌, ◌-◌, ◌<◌, ◌≤◌, true, false, List, [], ◌∷◌, ◌++◌, length, drop, Some, None, Option}
use Rattle.process.specs.Meaning.{Proc}
use Rattle.process.specs.Sets.{has, only}
use Rattle.process.specs.declared.moves.Move.{Move}
use Rattle.process.specs.declared.sets.StateSet.{StateSet}
use Rattle.reach.specs.Reach.{silent_reach}
use Rattle.reach.specs.declared.offered.OffersOf.{OffersOf}
use Rattle.reach.specs.declared.offers.Offers.{Offers}

-- the moves of state k, if it is in the set S
abbrev pub moves_in : Proc → ℕ → ℕ → List Move
moves_in p S k = elim (has S k) [ true ↦ p.moves k | false ↦ [] ]

-- the moves of the states of the set S among the d states from k on, in rising order
abbrev pub moves_from : Proc → ℕ → ℕ → ℕ → List Move
moves_from p S zero k = []
moves_from p S (suc d) k = moves_in p S k ++ moves_from p S d (suc k)

-- the moves of the states that s silently reaches, states in rising order, each one's moves in order
abbrev pub offers : Proc → ℕ → List Move
offers p s = moves_from p (silent_reach p (only s)) p.states 0

-- the moves of the set S from move i of state k on: the rest of that state's, then those of the later states
abbrev pub rest_from : Proc → ℕ → ℕ → ℕ → List Move
rest_from p S k i = drop i (moves_in p S k) ++ moves_from p S (p.states - suc k) (suc k)

-- the moves that a cursor has yet to give
abbrev pub rest : Proc → Offers → List Move
rest p c = rest_from p c.set.bits c.state c.at

-- the moves that a cursor has yet to give, of the process that it goes with
abbrev pub rest_of : {P : Type 0} → (P → Proc) → OffersOf P → List Move
rest_of meaning c = rest (meaning c.process.now) c.cursor

-- a cursor before all moves of the set, past one move, and at the next state
abbrev pub start_of : StateSet → Offers
start_of set = record { set = set; state = 0; at = 0 }

abbrev pub past_move : Offers → Offers
past_move c = record { set = c.set; state = c.state; at = c.at + 1 }

abbrev pub past_state : Offers → Offers
past_state c = record { set = c.set; state = c.state + 1; at = 0 }

-- the answer is the first of the moves before, and the others are left; None exactly when there was none
abbrev pub Taken : List Move → Option Move → List Move → Type 0
Taken before (Some m) left = before ≡ m ∷ left
Taken before None left = (before ≡ []) × (left ≡ [])

-- each move that is given is one move fewer to give
abbrev pub Fewer : List Move → Option Move → List Move → Type 0
Fewer before (Some m) left = suc (length left) ≡ length before
Fewer before None left = length before ≡ 0

-- the move leads to a state of the process, by a known motion
abbrev pub IsKnown : Proc → Move → Type 0
IsKnown p m = (m.target < p.states) × (m.motion ≤ 24)

-- a move that is given leads to a state of the process, by a known motion
abbrev pub Known : Proc → Option Move → Type 0
Known p (Some m) = IsKnown p m
Known p None = Unit {0}
