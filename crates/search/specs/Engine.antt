-- A search by listing rows, worked without a limit.
use Rattle.std.specs.Prelude.{ℕ, zero, suc, true, false, List, [], ◌∷◌, ◌++◌, length, get_or, ◌==◌, nat_lt, slice_index_or}
use Rattle.process.specs.declared.moves.Move.{Move}
use Rattle.certificate.specs.Rows.{empty_row}
use Rattle.certificate.specs.declared.Row.{Row}

-- what one move asks for: nothing, the end beyond, or a row more
pub data Ask : Type 0 where
  idle : Ask
  lacking : Ask
  append : Row → Ask

-- row 0, the moves of a row in their order, and what a move of row i, q, asks for while those rows are listed
pub record Engine : Type 0 where
  pub first : Row
  pub moves : Row → List Move
  pub asks : ℕ → Row → List Row → Move → Ask

-- the motions along back from row i, earliest first, in front of w; d bounds how many
abbrev pub trail : ℕ → List Row → ℕ → List ℕ → List ℕ
trail zero rows i w = w
trail (suc d) rows i w =
    elim (i == 0) [
      | true ↦ w
      | false ↦ let r = get_or rows i empty_row in trail d rows r.back (r.by ∷ w)
    ]

-- what work comes to: the rows then listed, or the motion lacking and the rows listed before it
pub data Work : Type 0 where
  listed : List Row → Work
  lost : ℕ → List Row → Work

-- the moves of row i, q, one after the other
abbrev pub work_moves : Engine → ℕ → Row → List Move → List Row → Work
work_moves E i q [] rows = listed rows
work_moves E i q (m ∷ ms) rows =
    elim (E.asks i q rows m) [
      | idle ↦ work_moves E i q ms rows
      | lacking ↦ lost m.motion rows
      | append r ↦ work_moves E i q ms (rows ++ r ∷ [])
    ]

-- all moves of a row
abbrev pub work_row : Engine → ℕ → Row → List Row → Work
work_row E i q rows = work_moves E i q (E.moves q) rows

-- how the listing stands, with the rows that it holds, and at the end beyond with the motions shown
pub data Stage : Type 0 where
  going : List Row → Stage
  ends_within : List Row → Stage
  ends_beyond : List Row → List ℕ → Stage

-- the rows that it holds
abbrev pub held : Stage → List Row
held (going rows) = rows
held (ends_within rows) = rows
held (ends_beyond rows w) = rows

-- no row is left to work, or a motion was lacking
abbrev pub Ended : Stage → Type 0
Ended (going rows) = ⊥
Ended (ends_within rows) = Unit {0}
Ended (ends_beyond rows w) = Unit {0}

-- the work on row i of these rows leads on, or to the end beyond
abbrev pub worked : ℕ → List Row → Work → Stage
worked i rows (listed more) = going more
worked i rows (lost a more) = ends_beyond more (trail i rows i (a ∷ []))

-- row i is worked, if there is one; an end stays
abbrev pub next : Engine → ℕ → Stage → Stage
next E i (going rows) =
    elim (nat_lt i (length rows)) [
      | false ↦ ends_within rows
      | true ↦ worked i rows (work_row E i (slice_index_or rows i empty_row) rows)
    ]
next E i (ends_within rows) = ends_within rows
next E i (ends_beyond rows w) = ends_beyond rows w

-- the listing after the work on its first d rows
abbrev pub listing : Engine → ℕ → Stage
listing E zero = going (E.first ∷ [])
listing E (suc d) = next E d (listing E d)
