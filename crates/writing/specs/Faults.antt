-- The number of an output's fault.
use Rattle.std.specs.Prelude.{ℕ}
use Rattle.writing.specs.declared.fault.OutputFault.{OutputFault}
use Rattle.writing.specs.declared.fault.OutputFault.TheVariants.{Short}

abbrev pub output_number : OutputFault → ℕ
output_number Short = 52
