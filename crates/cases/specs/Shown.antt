-- How numbers and faults are told.
use Rattle.std.specs.Prelude.{ℕ, List, ◌++◌, codes, decimal, Option, Some, None}
use Rattle.cases.specs.declared.numbers.LineFault.{LineFault}
use Rattle.cases.specs.declared.numbers.LineFault.TheVariants.{Missing, TooWide, NoMemory}

-- a number after a space
abbrev pub spaced : ℕ → List ℕ
spaced n = codes " " ++ decimal n

-- a number, and a place after a space
abbrev pub placed : ℕ × ℕ → List ℕ
placed told = decimal told.0 ++ (codes " " ++ decimal told.1)

-- a fault of a line; how a lack of memory is told is the library's
abbrev pub told : LineFault → Option (List ℕ)
told Missing = Some (codes "a number is missing")
told (TooWide bits) = Some (codes "a number is over " ++ (decimal bits ++ codes " bits"))
told NoMemory = None
