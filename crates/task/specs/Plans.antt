-- The three plans of the task, and what the definitions of reading, vetting and the search make of them.
use Rattle.std.specs.Prelude.{◌≡◌, ℕ, List, [], ◌∷◌, Ok, codes}
use Rattle.process.specs.Meaning.{Proc}
use Rattle.certificate.specs.declared.Row.{Row}
use Rattle.formtable.specs.Kinds.{row}
use Rattle.formtable.specs.Meaning.{process}
use Rattle.formtable.specs.Vet as forms
use Rattle.formtable.specs.declared.record.Record.{Record}
use Rattle.rowtable.specs.Rows.{Written, meant}
use Rattle.rowtable.specs.Rows as table
use Rattle.gate.specs.Follow.{plain}
use Rattle.gate.specs.Theorems.{Included}
use Rattle.reader.specs.Reading.{read_plan, outlined}
use Rattle.search.specs.Rule.{searched}
use Rattle.search.specs.Search.{inside, beyond}
use Rattle.search.specs.Theorems.{Shortest}
use Rattle.bench.specs.Permit.{bench_table}
use Rattle.bench.specs.Permit as bench

-- the permit
abbrev pub the_permit : Proc
the_permit = meant bench_table

-- the first plan's text: enter, fwd and leave, again and again
abbrev pub first_text : List ℕ
first_text = codes "(plan a1 (rec x (do enter (do fwd (do leave (go x))))))"

-- its records
abbrev pub first_records : List Record
first_records = row 4 0 ∷ row 1 12 ∷ row 1 1 ∷ row 1 13 ∷ row 5 0 ∷ []

-- the process that they write
abbrev pub first_plan : Proc
first_plan = process first_records

-- a row of a certificate: the state, the set, the row that it comes from, and the motion that leads there
abbrev pub listed : ℕ → ℕ → ℕ → ℕ → Row
listed s T back by = record { state = s; set = record { bits = T }; back = back; by = by }

-- the first plan's certificate
abbrev pub first_rows : List Row
first_rows = listed 0 1 0 0 ∷ listed 2 2 0 12 ∷ listed 3 2 1 1 ∷ listed 4 1 2 13 ∷ []

-- the second plan's table: enter, then lift and lower at will, and leave
abbrev pub second_table : Written
second_table = record { states = 3; rows = bench.row 0 12 1 ∷ bench.row 1 6 2 ∷ bench.row 2 7 1 ∷ bench.row 1 13 0 ∷ [] }

-- the process that it writes
abbrev pub second_plan : Proc
second_plan = meant second_table

-- the second plan's certificate
abbrev pub second_rows : List Row
second_rows = listed 0 1 0 0 ∷ listed 1 2 0 12 ∷ listed 2 4 1 6 ∷ []

-- the third plan's text: enter, lift and fwd, once
abbrev pub third_text : List ℕ
third_text = codes "(plan b2 (do enter (do lift (do fwd (end)))))"

-- its records
abbrev pub third_records : List Record
third_records = row 1 12 ∷ row 1 6 ∷ row 1 1 ∷ row 0 0 ∷ []

-- the process that they write
abbrev pub third_plan : Proc
third_plan = process third_records

-- its motions that the permit lacks: no fwd with the load up
abbrev pub third_motions : List ℕ
third_motions = 12 ∷ 6 ∷ 1 ∷ []

-- the definitions come to just these, with lists for 16 records, 16 rows and 8 motions
pub record WorkedOut : Type 0 where
  pub first_reads : read_plan first_text 16 ≡ Ok (outlined (codes "a1") 6 first_records)
  pub first_passes : forms.verdict first_records ≡ Ok tt
  pub first_within : searched plain first_plan the_permit 16 8 ≡ inside first_rows
  pub second_passes : table.verdict second_table.states second_table.rows ≡ Ok tt
  pub second_within : searched plain second_plan the_permit 16 8 ≡ inside second_rows
  pub third_reads : read_plan third_text 16 ≡ Ok (outlined (codes "b2") 6 third_records)
  pub third_passes : forms.verdict third_records ≡ Ok tt
  pub third_beyond : searched plain third_plan the_permit 16 8 ≡ beyond third_motions
  -- and so every trace of the first and the second plan is one of the permit, and the motions are a shortest of the third that is not
  pub first_included : Included first_plan the_permit
  pub second_included : Included second_plan the_permit
  pub third_shortest : Shortest third_plan the_permit third_motions
