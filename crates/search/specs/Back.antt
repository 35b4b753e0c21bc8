-- The links from each row to the row that it comes from.
use Rattle.std.specs.Prelude.{ℕ, zero, suc, ◌<◌, ◌≤◌, List, [], ◌∷◌, length, fold, slice_index_or}
use Rattle.certificate.specs.Rows.{empty_row}
use Rattle.certificate.specs.declared.Row.{Row}

-- each of the rows, but for row 0, comes from a row before it
abbrev pub Earlier : List Row → Type 0
Earlier rows = (k : ℕ) → suc k < length rows → (slice_index_or rows (suc k) empty_row).back ≤ k

-- row i and those that it comes from, as far as row 0, which is left out; d bounds how many
abbrev pub way_back : ℕ → List Row → ℕ → List Row
way_back zero rows i = []
way_back (suc d) rows zero = []
way_back (suc d) rows (suc k) = let r = slice_index_or rows (suc k) empty_row in r ∷ way_back d rows r.back

-- the motions that lead to the first of the rows, each from the next one, in front of w
abbrev pub along : List Row → List ℕ → List ℕ
along rows w = fold (λ v (r : Row). r.by ∷ v) w rows
