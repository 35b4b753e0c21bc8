-- How many places the caller's lists have.
use Rattle.std.specs.Prelude.{ℕ, List, length}
use Rattle.certificate.specs.declared.Row.{Row}
use Rattle.formtable.specs.declared.record.Record.{Record}

pub record Sizes : Type 0 where
  pub records : ℕ
  pub rows : ℕ
  pub motions : ℕ

abbrev pub sizes : List Record → List Row → List ℕ → Sizes
sizes records rows motions = record { records = length records; rows = length rows; motions = length motions }
