-- How the parts of a case stand in the numbers of a line.
use Rattle.std.specs.Prelude.{◌≡◌, ℕ, ◌<◌, ◌≤◌, ◌^◌, ◌⊎◌, List, [], ◌∷◌, length}
use Rattle.certificate.specs.declared.Row.{Row}
use Rattle.formtable.specs.declared.record.Record.{Record}
use Rattle.cases.specs.declared.numbers.LineFault.{LineFault}
use Rattle.cases.specs.declared.numbers.LineFault.TheVariants.{Missing, TooWide}
use Rattle.rowtable.specs.declared.transition.Transition.{Transition}

-- a number is itself
abbrev pub ReadsNumber : List ℕ → ℕ → List ℕ → Type 0
ReadsNumber old n new = old ≡ n ∷ new

-- nothing stands there
abbrev pub Ended : List ℕ → LineFault → Type 0
Ended old e = (old ≡ []) × (e ≡ Missing)

-- nothing stands there, or a number of more than so many bits
abbrev pub LacksNumber : ℕ → List ℕ → LineFault → Type 0
LacksNumber bits [] e = e ≡ Missing
LacksNumber bits (n ∷ ns) e = (e ≡ TooWide bits) × (2 ^ bits ≤ n)

-- a row of a row table is FROM MOTION TO
abbrev pub ReadsRow : List ℕ → Transition → List ℕ → Type 0
ReadsRow old x new = old ≡ x.from ∷ x.motion ∷ x.to ∷ new

-- a record of a form table is KIND ARGUMENT
abbrev pub ReadsRecord : List ℕ → Record → List ℕ → Type 0
ReadsRecord old x new = old ≡ x.kind ∷ x.argument ∷ new

-- a row of a certificate is STATE SET BACK BY
abbrev pub ReadsCertified : List ℕ → Row → List ℕ → Type 0
ReadsCertified old x new = old ≡ x.state ∷ x.set.bits ∷ x.back ∷ x.by ∷ new

-- parts, one behind another
abbrev pub ReadsAll : {X : Type 0} → (List ℕ → X → List ℕ → Type 0) → List ℕ → List X → List ℕ → Type 0
ReadsAll R old [] new = old ≡ new
ReadsAll R old (x ∷ xs) new = (mid : List ℕ) × R old x mid × ReadsAll R mid xs new

-- a list is its length, and its parts
abbrev pub ReadsList : {X : Type 0} → (List ℕ → X → List ℕ → Type 0) → List ℕ → List X → List ℕ → Type 0
ReadsList R old xs new = (mid : List ℕ) × ReadsNumber old (length xs) mid × ReadsAll R mid xs new

-- fields of so many bits do not stand there, by the first that lacks
abbrev pub LacksFields : List ℕ → List ℕ → LineFault → Type 0
LacksFields [] old e = ⊥
LacksFields (bits ∷ more) [] e = e ≡ Missing
LacksFields (bits ∷ more) (n ∷ ns) e = ((e ≡ TooWide bits) × (2 ^ bits ≤ n)) ⊎ ((n < 2 ^ bits) × LacksFields more ns e)

-- no length stands there, or there is no memory, or after so many parts of it there is none
abbrev pub LacksList : {X F : Type 0} → (List ℕ → X → List ℕ → Type 0) → (List ℕ → F → Type 0) → (LineFault → F → Type 0) → (F → Type 0) → List ℕ → F → Type 0
LacksList {X} R L from_line no_memory old e =
    ((f : LineFault) × LacksNumber 16 old f × from_line f e)
    ⊎ (no_memory e)
    ⊎ ((n : ℕ) × (mid : List ℕ) × (xs : List X) × (stop : List ℕ) × ReadsNumber old n mid × ReadsAll R mid xs stop × (length xs < n) × L stop e)
