-- What stands at a place of a list, and what is left from there on.
use Rattle.std.proofs.Common.{◌≡◌, ℕ, ◌+◌, ◌<◌, ◌≤◌, ◌⊎◌, List, [], ◌∷◌, length, drop, get_or, Some, None, sym, ap, ◌∙◌, inl, inr}
use Rattle.std.specs.List.{slice_get}
use Rattle.std.proofs.lemmas.List.{drop_more, drop_all}
use Rattle.std.proofs.lemmas.Option.{slice_get_within, get_or_from_slice_get, slice_get_cases, none-some}

pub gives : {X : Type 0} (xs : List X) (k : ℕ) (m : X) → slice_get xs k ≡ Some m → drop k xs ≡ m ∷ drop (k + 1) xs
gives xs k m e = drop_more xs k m (slice_get_within xs k m e) ∙ ap (λ y. y ∷ drop (k + 1) xs) (get_or_from_slice_get xs k m m e)

pub ends : {X : Type 0} (xs : List X) (k : ℕ) → slice_get xs k ≡ None → drop k xs ≡ []
ends {X = X} xs k e = by (slice_get_cases xs k).1
  where
    by : ((x : X) × (k < length xs) × (slice_get xs k ≡ Some x) × (get_or xs k x ≡ x)) ⊎ ((length xs ≤ k) × (slice_get xs k ≡ None)) → drop k xs ≡ []
    by (inl (x, l, s, g)) = absurd (none-some x (sym e ∙ s))
    by (inr (l, n)) = drop_all k xs l
