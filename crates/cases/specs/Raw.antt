-- Tables as a line writes them, and what vetting makes of them.
use Rattle.std.specs.Prelude.{◌≡◌, ◌≢◌, ◌⊎◌, [], ◌∷◌, ℕ, List, Ok, Err, Result}
use Rattle.process.specs.Meaning.{Proc}
use Rattle.formtable.specs.Kinds.{row}
use Rattle.formtable.specs.Meaning.{process}
use Rattle.formtable.specs.Table.{held as held_forms}
use Rattle.formtable.specs.Vet.{verdict as forms_verdict}
use Rattle.rowtable.specs.Rows.{meant, held as held_rows, verdict as rows_verdict}
use Rattle.cases.specs.Reading.{Ended, ReadsNumber, LacksNumber, LacksFields, ReadsList, LacksList, ReadsRow, ReadsRecord}
use Rattle.cases.specs.Tables.{meaning_of}
use Rattle.cases.specs.declared.numbers.LineFault.{LineFault}
use Rattle.cases.specs.declared.numbers.LineFault.TheVariants.{NoMemory}
use Rattle.cases.specs.declared.raw.RawTable.{RawTable}
use Rattle.cases.specs.declared.raw.RawTable.TheVariants.{Rows, Forms}
use Rattle.cases.specs.declared.raw.Refused.{Refused}
use Rattle.cases.specs.declared.table.Table.{Table}

-- 0, the states and the rows; or another number, and the records
abbrev pub ReadsTable : List ℕ → RawTable → List ℕ → Type 0
ReadsTable old (Rows states rows) new = (rest : List ℕ) × (old ≡ 0 ∷ states ∷ rest) × ReadsList ReadsRow rest rows.items new
ReadsTable old (Forms records) new = (kind : ℕ) × (rest : List ℕ) × (kind ≢ 0) × ReadsNumber old kind rest × ReadsList ReadsRecord rest records.items new

-- a list of records of so many fields, by what one of them reads
abbrev pub LacksRecords : {X : Type 0} → (List ℕ → X → List ℕ → Type 0) → List ℕ → List ℕ → LineFault → Type 0
LacksRecords R fields = LacksList R (LacksFields fields) (λ f e. e ≡ f) (λ e. e ≡ NoMemory)

-- no kind stands there; or the number of states or the rows lack behind it; or the records do
abbrev pub LacksTable : List ℕ → LineFault → Type 0
LacksTable old e =
    Ended old e
    ⊎ ((rest : List ℕ) × ReadsNumber old 0 rest × (LacksNumber 8 rest e ⊎ ((states : ℕ) × (more : List ℕ) × ReadsNumber rest states more × LacksRecords ReadsRow (8 ∷ 8 ∷ 8 ∷ []) more e)))
    ⊎ ((kind : ℕ) × (rest : List ℕ) × (kind ≢ 0) × ReadsNumber old kind rest × LacksRecords ReadsRecord (8 ∷ 16 ∷ []) rest e)

-- the verdict on it
abbrev pub verdict_on : RawTable → Result (Unit {0}) ℕ
verdict_on (Rows states rows) = rows_verdict states rows.items
verdict_on (Forms records) = forms_verdict records.items

-- what a table means then: what was written if it passes, else one state without moves
abbrev pub meaning_then : RawTable → Proc
meaning_then (Rows states rows) = meant (held_rows (rows_verdict states rows.items) states rows.items)
meaning_then (Forms records) = process (held_forms (forms_verdict records.items) records.items)

-- what a table of its kind means that holds something before: a step by motion 1
abbrev pub meaning_before : RawTable → Proc
meaning_before (Rows states rows) = meant (record { states = 2; rows = record { from = 0; motion = 1; to = 1 } ∷ [] })
meaning_before (Forms records) = process (row 1 1 ∷ row 0 0 ∷ [])

-- what vetting answers
abbrev pub Vetted : RawTable → Result Table Refused → Type 0
Vetted raw (Ok t) = (verdict_on raw ≡ Ok tt) × (meaning_of t ≡ meaning_then raw)
Vetted raw (Err r) = (verdict_on raw ≡ Err r.number) × (meaning_of r.left ≡ meaning_then raw)

-- a table stands there that passes vetting, and is what vetting makes of it
abbrev pub ReadsVetted : List ℕ → Table → List ℕ → Type 0
ReadsVetted old t new = (raw : RawTable) × ReadsTable old raw new × Vetted raw (Ok t)

-- a table that was written by vetting, by its verdict
abbrev pub settled_by : Result (Unit {0}) ℕ → Table → Result Table Refused
settled_by (Ok v) t = Ok t
settled_by (Err n) t = Err (record { number = n; left = t })
