-- The calls of a history, as a line writes them.
use Rattle.std.specs.Prelude.{◌≡◌, ℕ, zero, suc, List, ◌∷◌, Some, None, Option}
use Rattle.comparison.specs.declared.calls.Call.{Call}
use Rattle.comparison.specs.declared.calls.Call.TheVariants.{Admit, Start, Release, Done, Failed, Rest}
use Rattle.comparison.specs.declared.calls.Turn.{Turn}

-- the call with a number and an argument: none where no call has the number
abbrev pub call_of : ℕ → ℕ → Option Call
call_of zero n = Some (Admit n)
call_of (suc zero) n = Some Start
call_of (suc (suc zero)) n = Some (Release n)
call_of (suc (suc (suc zero))) n = Some (Done n)
call_of (suc (suc (suc (suc zero)))) n = Some (Failed n)
call_of (suc (suc (suc (suc (suc zero))))) n = Some Rest
call_of (suc (suc (suc (suc (suc (suc k)))))) n = None

-- CALL CONTROLLER ARGUMENT
abbrev pub ReadsTurn : List ℕ → Turn → List ℕ → Type 0
ReadsTurn old x new =
    (number : ℕ) × (argument : ℕ) × (old ≡ number ∷ x.who ∷ argument ∷ new) × (call_of number argument ≡ Some x.call)
