-- Lists of moves, one for each state.
use Rattle.std.specs.Prelude.{ℕ, List, [], ◌∷◌, ◌++◌, map, length, sum_by, slice_index_or}
use Rattle.std.specs.List.{range_with_len}
use Rattle.process.specs.Meaning.{Proc}
use Rattle.process.specs.declared.moves.Move.{Move}

-- the moves of s: none where there is no such state
abbrev pub moves_at : List (List Move) → ℕ → List Move
moves_at ls s = slice_index_or ls s []

-- the lists with one move more in the last one
abbrev pub pushed : Move → List (List Move) → List (List Move)
pushed m [] = []
pushed m (ms ∷ []) = (ms ++ m ∷ []) ∷ []
pushed m (ms ∷ ns ∷ ls) = ms ∷ pushed m (ns ∷ ls)

-- the process of so many states with these moves
abbrev pub proc_of : List (List Move) → Proc
proc_of ls = record { states = length ls; moves = moves_at ls }

-- the moves of the states below n
abbrev pub lists_below : Proc → ℕ → List (List Move)
lists_below p n = map p.moves (range_with_len 0 n)

-- one state without moves
abbrev pub no_moves : Proc
no_moves = record { states = 1; moves = λ s. [] }

-- how many moves there are in all
abbrev pub moves_in_all : Proc → ℕ
moves_in_all p = sum_by length (lists_below p p.states)
