-- The numbers of a row table's faults.
use Rattle.std.specs.Prelude.{ℕ}
use Rattle.rowtable.specs.declared.fault.RowFault.{RowFault}
use Rattle.rowtable.specs.declared.fault.RowFault.TheVariants.{StateCount, RowCount, BadRow}

-- the number that each fault is known by
abbrev pub row_number : RowFault → ℕ
row_number StateCount = 31
row_number RowCount = 32
row_number BadRow = 33
