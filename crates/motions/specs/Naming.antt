-- The names of the motions 1 to 24, in order, and which word names which motion.
use Rattle.std.specs.Prelude.{◌≡◌, ℕ, ◌+◌, ◌-◌, ◌<◌, ◌≤◌, cond, ◌↔◌, List, [], ◌∷◌, length, Some, None, codes, Option, ◌==◌, slice_index_or}
use Rattle.std.specs.Option.{option_map}
use Rattle.std.specs.List.{slice_get}
use Rattle.std.specs.Str.{bytes_eq}
use Rattle.common.specs.First.{first}
use Rattle.motions.specs.declared.words.Name.{Name}

-- the letters of a name
abbrev pub letters_of : Name → List ℕ
letters_of n = n.letters.now

abbrev pub names : List (List ℕ)
names =
    codes "fwd"
    ∷ codes "rev"
    ∷ codes "slowfwd"
    ∷ codes "slowrev"
    ∷ codes "halt"
    ∷ codes "lift"
    ∷ codes "lower"
    ∷ codes "grip"
    ∷ codes "drop"
    ∷ codes "scan"
    ∷ codes "count"
    ∷ codes "enter"
    ∷ codes "leave"
    ∷ codes "dock"
    ∷ codes "undock"
    ∷ codes "park"
    ∷ codes "wake"
    ∷ codes "charge"
    ∷ codes "uncharge"
    ∷ codes "horn"
    ∷ codes "lampon"
    ∷ codes "lampoff"
    ∷ codes "zero"
    ∷ codes "report"
    ∷ []

-- no word stands at two places
abbrev pub Distinct : List (List ℕ) → Type 0
Distinct xs = (i j : ℕ) → i < length xs → j < length xs → slice_index_or xs i [] ≡ slice_index_or xs j [] → i ≡ j

-- the first place of a word among the names, from 0 on
abbrev pub place_of : List ℕ → Option ℕ
place_of w = first (λ x. bytes_eq x w) names

-- the motion that a word names: motions are numbered from 1
abbrev pub motion_of : List ℕ → Option ℕ
motion_of w = option_map (λ i. i + 1) (place_of w)

-- the name of a motion: none for 0, nor past the last name
abbrev pub name_of : ℕ → Option (List ℕ)
name_of m = cond (m == 0) None (slice_get names (m - 1))

-- w is the name of motion m
abbrev pub Names : List ℕ → ℕ → Type 0
Names w m = name_of m ≡ Some w

-- a word is read as a motion exactly when it is that motion's name
abbrev pub OneToOne : Type 0
OneToOne = (w : List ℕ) (m : ℕ) → (motion_of w ≡ Some m) ↔ Names w m

-- a name has 1 to 8 letters
abbrev pub Short : List ℕ → Type 0
Short w = (1 ≤ length w) × (length w ≤ 8)
