-- What a report leaves in the caller's lists.
use Rattle.std.specs.Prelude.{◌≡◌, ℕ, ◌-◌, ◌≤◌, List, length, drop, replicate, Ok, Err, Result}
use Rattle.certificate.specs.Rows.{empty_row}
use Rattle.certificate.specs.declared.Row.{Row}
use Rattle.formtable.specs.declared.record.Record.{Record}
use Rattle.reader.specs.Reading.{empty_record}
use Rattle.writing.specs.declared.fault.OutputFault.{OutputFault}

-- every list is empty
pub record Emptied (records : List Record) (rows : List Row) (motions : List ℕ) : Type 0 where
  pub no_record : records ≡ replicate (length records) empty_record
  pub no_row : rows ≡ replicate (length rows) empty_row
  pub no_motion : motions ≡ replicate (length motions) 0

-- zeros follow the bytes that were written; where they did not fit, the output is zero and every list is empty
abbrev pub Leaves : Result ℕ OutputFault → List ℕ → List Record → List Row → List ℕ → Type 0
Leaves (Ok n) out records rows motions = (n ≤ length out) × (drop n out ≡ replicate (length out - n) 0)
Leaves (Err e) out records rows motions = (out ≡ replicate (length out) 0) × Emptied records rows motions
