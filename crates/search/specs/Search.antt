-- The search within the caller's lists, and what those then hold.
use Rattle.std.specs.Prelude.{ℕ, zero, suc, ◌-◌, min, true, false, List, [], ◌∷◌, ◌++◌, length, replicate, Ok, Err, Result, nat_lt, slice_index_or}
use Rattle.process.specs.declared.moves.Move.{Move}
use Rattle.certificate.specs.Rows.{empty_row}
use Rattle.certificate.specs.declared.Row.{Row}
use Rattle.search.specs.Engine.{Ask, Engine, idle, lacking, append, trail, Stage, going, ends_within, ends_beyond}
use Rattle.search.specs.declared.answer.Answer.{Answer}
use Rattle.search.specs.declared.answer.Answer.TheVariants as answers

-- what a search comes to: the rows listed, the motions shown, or a refusal by its number
pub data Outcome : Type 0 where
  inside : List Row → Outcome
  beyond : List ℕ → Outcome
  fault : ℕ → Outcome

-- the work on one row: the rows then listed, the motion lacking, or no room for a row
pub data Trial : Type 0 where
  kept : List Row → Trial
  stopped : ℕ → Trial
  full : Trial

-- what a move by motion a asks for, done where there is room for `most` rows
abbrev pub try_ask : ℕ → ℕ → List Row → Ask → Trial
try_ask most a rows idle = kept rows
try_ask most a rows lacking = stopped a
try_ask most a rows (append r) = elim (nat_lt (length rows) most) [ true ↦ kept (rows ++ r ∷ []) | false ↦ full ]

-- a trial, then the next one where it keeps on
abbrev pub and_then : Trial → (List Row → Trial) → Trial
and_then (kept rows) f = f rows
and_then (stopped a) f = stopped a
and_then full f = full

-- the moves of one row, with room for `most` rows
abbrev pub try_moves : Engine → ℕ → ℕ → Row → List Move → List Row → Trial
try_moves E most i q [] rows = kept rows
try_moves E most i q (m ∷ ms) rows = and_then (try_ask most m.motion rows (E.asks i q rows m)) (λ more. try_moves E most i q ms more)

-- all moves of a row
abbrev pub try_row : Engine → ℕ → ℕ → Row → List Row → Trial
try_row E most i q rows = try_moves E most i q (E.moves q) rows

-- the motions w in a list for so many: 42 where it is too short
abbrev pub shown : ℕ → List ℕ → Outcome
shown motions w = elim (nat_lt motions (length w)) [ true ↦ fault 42 | false ↦ beyond w ]

-- the rows from i on; d bounds how many are worked
abbrev pub try_rows : Engine → ℕ → ℕ → ℕ → ℕ → List Row → Outcome
try_rows E most motions zero i rows = fault 41
try_rows E most motions (suc d) i rows =
    elim (nat_lt i (length rows)) [
      | false ↦ inside rows
      | true ↦ elim (try_row E most i (slice_index_or rows i empty_row) rows) [
        | kept more ↦ try_rows E most motions d (suc i) more
        | stopped a ↦ shown motions (trail i rows i (a ∷ []))
        | full ↦ fault 41
      ]
    ]

-- the search with lists for so many rows and motions: 41 where a row has no place, or would be row 1,024
abbrev pub search_by : Engine → ℕ → ℕ → Outcome
search_by E most motions =
    elim (nat_lt 0 most) [
      | false ↦ fault 41
      | true ↦ try_rows E (min most 1024) motions (suc (min most 1024)) 0 (E.first ∷ [])
    ]

-- the same read off a stage of the listing worked without a limit: more rows than there is room for are 41
abbrev pub told : ℕ → ℕ → Stage → Outcome
told room motions (going rows) = fault 41
told room motions (ends_within rows) = elim (nat_lt room (length rows)) [ true ↦ fault 41 | false ↦ inside rows ]
told room motions (ends_beyond rows w) = elim (nat_lt room (length rows)) [ true ↦ fault 41 | false ↦ shown motions w ]

-- the answer, with its count; a refusal by its number
abbrev pub answer_of : Outcome → Result Answer ℕ
answer_of (inside rows) = Ok (answers.Within (length rows))
answer_of (beyond w) = Ok (answers.Beyond (length w))
answer_of (fault k) = Err k

-- the caller's rows then, n of them: the rows listed, and empty ones
abbrev pub rows_after : Outcome → ℕ → List Row
rows_after (inside rows) n = rows ++ replicate (n - length rows) empty_row
rows_after (beyond w) n = replicate n empty_row
rows_after (fault k) n = replicate n empty_row

-- the caller's motions then, n of them: the motions shown, and zeros
abbrev pub motions_after : Outcome → ℕ → List ℕ
motions_after (inside rows) n = replicate n 0
motions_after (beyond w) n = w ++ replicate (n - length w) 0
motions_after (fault k) n = replicate n 0
