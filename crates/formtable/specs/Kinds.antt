-- What a record says by its kind.
use Rattle.std.specs.Prelude.{ℕ, zero, suc, Bool, true, false, Some, None, Option}
use Rattle.formtable.specs.declared.record.Form.{Form}
use Rattle.formtable.specs.declared.record.Form.TheVariants.{End, Do, Tau, Or, Rec, Go}
use Rattle.formtable.specs.declared.record.Record.{Record}

-- the form of a kind with an argument: none where the kind is not known
abbrev pub kind_of : ℕ → ℕ → Option Form
kind_of zero a = Some End
kind_of (suc zero) a = Some (Do a)
kind_of (suc (suc zero)) a = Some Tau
kind_of (suc (suc (suc zero))) a = Some (Or a)
kind_of (suc (suc (suc (suc zero)))) a = Some Rec
kind_of (suc (suc (suc (suc (suc zero))))) a = Some (Go a)
kind_of (suc (suc (suc (suc (suc (suc n)))))) a = None

-- a record by its kind and argument
abbrev pub row : ℕ → ℕ → Record
row k a = record { kind = k; argument = a }

-- the record that says a form
abbrev pub record_of : Form → Record
record_of End = row 0 0
record_of (Do a) = row 1 a
record_of Tau = row 2 0
record_of (Or r) = row 3 r
record_of Rec = row 4 0
record_of (Go k) = row 5 k

-- is there a rec
abbrev pub is_rec : Option Form → Bool
is_rec (Some Rec) = true
is_rec _ = false

-- is there a do
abbrev pub is_do : Option Form → Bool
is_do (Some (Do a)) = true
is_do _ = false
