-- A small process for the tests: state 0 steps in silence to state 1, which moves by motion 3 back to state 0.
use Rattle.std.specs.Prelude.{ℕ, zero, suc, List, [], ◌∷◌}
use Rattle.process.specs.Meaning.{Proc}
use Rattle.process.specs.declared.moves.Move.{Move}

abbrev pub shuttle_moves : ℕ → List Move
shuttle_moves zero = record { motion = 0; target = 1 } ∷ []
shuttle_moves (suc zero) = record { motion = 3; target = 0 } ∷ []
shuttle_moves (suc (suc s)) = []

abbrev pub shuttle_meaning : Proc
shuttle_meaning = record { states = 2; moves = shuttle_moves }
