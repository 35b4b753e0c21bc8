-- What a row table means, and which tables pass vetting.
use Rattle.std.specs.Prelude.{ℕ, Bool, true, false, ◌&&◌, List, [], map, filter, length, Ok, Err, Result, ◌==◌, nat_le, nat_lt}
use Rattle.std.specs.List.{list_all}
use Rattle.process.specs.Meaning.{Proc}
use Rattle.process.specs.declared.moves.Move.{Move}
use Rattle.rowtable.specs.declared.transition.Transition.{Transition}

-- a row as a move of the state that it starts from
abbrev pub move_of : Transition → Move
move_of r = record { motion = r.motion; target = r.to }

-- the moves of state s: its rows in order, repeats too
abbrev pub moves_of : ℕ → List Transition → List Move
moves_of s rows = map move_of (filter (λ r. r.from == s) rows)

-- the process that a table of n states writes
abbrev pub table_meaning : ℕ → List Transition → Proc
table_meaning n rows = record { states = n; moves = λ s. moves_of s rows }

-- at least one state, at most 64
abbrev pub ok_states : ℕ → Bool
ok_states n = nat_le 1 n && nat_le n 64

-- both states of the row exist, and its motion is at most 24
abbrev pub ok_row : ℕ → Transition → Bool
ok_row n r = nat_lt r.from n && (nat_lt r.to n && nat_le r.motion 24)

-- every row is so
abbrev pub ok_rows : ℕ → List Transition → Bool
ok_rows n rows = list_all (ok_row n) rows

-- the next test's answer where this one is passed, and this one's number where it is not
abbrev pub unless : Bool → ℕ → Result (Unit {0}) ℕ → Result (Unit {0}) ℕ
unless true fault next = next
unless false fault next = Err fault

-- what vetting says: the first test that fails decides
abbrev pub verdict : ℕ → List Transition → Result (Unit {0}) ℕ
verdict n rows = unless (ok_states n) 31 (unless (nat_le (length rows) 255) 32 (unless (ok_rows n rows) 33 (Ok tt)))

-- the table passes every test
abbrev pub vetted : ℕ → List Transition → Bool
vetted n rows = ok_states n && (nat_le (length rows) 255 && ok_rows n rows)

-- a row table as it is written: a number of states and the rows
pub record Written : Type 0 where
  pub states : ℕ
  pub rows : List Transition

-- the process that it means
abbrev pub meant : Written → Proc
meant w = table_meaning w.states w.rows

-- one state without rows
abbrev pub single : Written
single = record { states = 1; rows = [] }

-- what a vetted table holds after a verdict: the given table, or one state without rows
abbrev pub held : Result (Unit {0}) ℕ → ℕ → List Transition → Written
held (Ok v) n rows = record { states = n; rows = rows }
held (Err fault) n rows = single
