-- A fault as it is told: its number and its place.
use Rattle.std.specs.Prelude.{ℕ, Ok, Err, Result}
use Rattle.common.specs.declared.fault.Located.{Located}

abbrev pub shown_by : {F : Type 0} → (F → ℕ) → Located F → ℕ × ℕ
shown_by number f = (number f.fault, f.place)

-- an answer, its fault told by number
abbrev pub numbered : {X F : Type 0} → (F → ℕ) → Result X F → Result X ℕ
numbered number (Ok x) = Ok x
numbered number (Err f) = Err (number f)
