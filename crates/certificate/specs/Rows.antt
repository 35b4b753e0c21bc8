-- Rows of a certificate.
use Rattle.std.specs.Prelude.{ℕ}
use Rattle.certificate.specs.declared.Row.{Row}

-- the row that fills the places without one
abbrev pub empty_row : Row
empty_row = record { state = 0; set = record { bits = 0 }; back = 0; by = 0 }

-- what a row is looked up by: its state and its set
abbrev pub key_of : Row → ℕ × ℕ
key_of r = (r.state, r.set.bits)
