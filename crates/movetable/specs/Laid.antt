-- How lists of moves are laid out: state after state, with the place where each one starts.
use Rattle.std.specs.Prelude.{◌≡◌, ℕ, ◌+◌, ◌<◌, ◌≤◌, ◌^◌, List, map, slice_index, slice_range}
use Rattle.std.specs.List.{range_with_len}
use Rattle.process.specs.declared.moves.Move.{Move}

-- the moves of s stand between two starts
abbrev pub list_at : List ℕ → List Move → ℕ → List Move
list_at starts ms s = slice_range ms (slice_index starts s) (slice_index starts (s + 1))

-- the lists of n states
abbrev pub lists : List ℕ → List Move → ℕ → List (List Move)
lists starts ms n = map (list_at starts ms) (range_with_len 0 n)

-- the starts of n states, and the end of the last one, rise from 0 to at most the room
pub record Laid (room n : ℕ) (starts : List ℕ) : Type 0 where
  pub small : room < 2 ^ 16
  pub few : n ≤ 64
  pub first : slice_index starts 0 ≡ 0
  pub rising : (s t : ℕ) → s ≤ t → t ≤ n → slice_index starts s ≤ slice_index starts t
  pub within : slice_index starts n ≤ room
