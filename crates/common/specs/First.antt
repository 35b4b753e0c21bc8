-- The first record that has a property.
use Rattle.std.specs.Prelude.{ℕ, suc, ◌<◌, Bool, cond, List, [], ◌∷◌, length, Some, None, Option}
use Rattle.std.specs.Option.{option_map}
use Rattle.std.specs.List.{AllWithin, HoldsAt}

-- r is the index of the first record of xs with the property P, and None where no record has it
abbrev pub FirstWith : {X : Type 0} → (X → Type 0) → List X → Option ℕ → Type 0
FirstWith P xs (Some i) = (i < length xs) × HoldsAt P xs i × AllWithin (λ x. P x → ⊥) xs 0 i
FirstWith P xs None = AllWithin (λ x. P x → ⊥) xs 0 (length xs)

-- the same as a function, where a test decides the property
abbrev pub first : {X : Type 0} → (X → Bool) → List X → Option ℕ
first test [] = None
first test (x ∷ xs) = cond (test x) (Some 0) (option_map suc (first test xs))
