-- Where forms end, and the moves of their places. The first inner form of the record at i stands at i + 1.
use Rattle.std.specs.Prelude.{◌≡◌, ℕ, zero, suc, ◌<◌, ◌≤◌, Bool, true, false, List, [], ◌∷◌, ◌++◌, length, Some, None, Option, ◌==◌, option_and_then, nat_lt}
use Rattle.std.specs.List.{slice_get}
use Rattle.process.specs.declared.moves.Move.{Move}
use Rattle.formtable.specs.Kinds.{kind_of}
use Rattle.formtable.specs.declared.record.Form.{Form}
use Rattle.formtable.specs.declared.record.Form.TheVariants.{End, Do, Tau, Or, Rec, Go}
use Rattle.formtable.specs.declared.record.Record.{Record}

-- the form that the record at place i says: none where no record stands, or one of a kind that is not known
abbrev pub form_at : List Record → ℕ → Option Form
form_at rs i = option_and_then (λ r. kind_of r.kind r.argument) (slice_get rs i)

-- the place after the right-hand form at r, if the left-hand form ends there
abbrev pub at_right : (ℕ → Option ℕ) → ℕ → Bool → Option ℕ
at_right next r true = next r
at_right next r false = None

-- the place after an or with argument r, by the place after its left-hand form
abbrev pub or_past : (ℕ → Option ℕ) → ℕ → Option ℕ → Option ℕ
or_past next r None = None
or_past next r (Some p) = at_right next r (p == r)

-- the place after the form at i, by the places after its inner forms
abbrev pub past_with : (ℕ → Option ℕ) → ℕ → Option Form → Option ℕ
past_with next i (Some End) = Some (suc i)
past_with next i (Some (Do a)) = next (suc i)
past_with next i (Some Tau) = next (suc i)
past_with next i (Some (Or r)) = or_past next r (next (suc i))
past_with next i (Some Rec) = next (suc i)
past_with next i (Some (Go k)) = Some (suc i)
past_with next i None = None

-- the same within n levels of forms
abbrev pub past_in : ℕ → List Record → ℕ → Option ℕ
past_in zero rs i = None
past_in (suc n) rs i = past_with (λ p. past_in n rs p) i (form_at rs i)

-- Past(i), the place after the form at i: None where a record is missing or an or's parts do not meet
abbrev pub past : List Record → ℕ → Option ℕ
past rs i = past_in (length rs) rs i

-- laid out well: Past(0) is the length
abbrev pub LaidOut : List Record → Type 0
LaidOut rs = past rs zero ≡ Some (length rs)

-- is place i before the place after a form, if there is one
abbrev pub reaches : ℕ → Option ℕ → Bool
reaches i None = false
reaches i (Some p) = nat_lt i p

-- a move by motion a to state t
abbrev pub move_to : ℕ → ℕ → Move
move_to a t = record { motion = a; target = t }

-- the moves of the form at i, by those of its inner forms
abbrev pub moves_by : (ℕ → List Move) → ℕ → Option Form → List Move
moves_by next i (Some End) = []
moves_by next i (Some (Do a)) = move_to a (suc i) ∷ []
moves_by next i (Some Tau) = move_to 0 (suc i) ∷ []
moves_by next i (Some (Or r)) = next (suc i) ++ next r
moves_by next i (Some Rec) = move_to 0 (suc i) ∷ []
moves_by next i (Some (Go k)) = move_to 0 (suc k) ∷ []
moves_by next i None = []

-- the same within n levels of forms
abbrev pub moves_in : ℕ → List Record → ℕ → List Move
moves_in zero rs i = []
moves_in (suc n) rs i = moves_by (λ p. moves_in n rs p) i (form_at rs i)

-- the moves of place i
abbrev pub moves : List Record → ℕ → List Move
moves rs i = moves_in (length rs) rs i

-- the form at i has a known motion, and places below 64 to move to
abbrev pub Near : ℕ → Option Form → Type 0
Near i (Some End) = Unit {0}
Near i (Some (Do a)) = (a ≤ 24) × (i < 64)
Near i (Some Tau) = i < 64
Near i (Some (Or r)) = Unit {0}
Near i (Some Rec) = i < 64
Near i (Some (Go k)) = k < 64
Near i None = Unit {0}
