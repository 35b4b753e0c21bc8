-- Rows that have passed vetting, as contracts see them.
use Rattle.std.specs.Prelude.{◌≡◌, ℕ, List, Ok, Err, Result}
use Rattle.rowtable.specs.Faults.{row_number}
use Rattle.rowtable.specs.Rows.{Written}
use Rattle.rowtable.specs.declared.fault.RowFault.{RowFault}
use Rattle.rowtable.specs.declared.rows.Rows.{Rows}
use Rattle.rowtable.specs.declared.transition.Transition.{Transition}

-- an answer of vetting, its fault told by number
abbrev pub tested : Result Rows RowFault → Result (Unit {0}) ℕ
tested (Ok r) = Ok tt
tested (Err f) = Err (row_number f)

-- the table that the rows write
abbrev pub written : Rows → Written
written r = record { states = r.states; rows = r.rows.now }

-- they are just these
abbrev pub Holds : ℕ → List Transition → Rows → Type 0
Holds n rows r = written r ≡ record { states = n; rows = rows }
