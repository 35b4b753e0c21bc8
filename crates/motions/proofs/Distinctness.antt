-- No word stands at two places of the table: one computed test over the whole table, and what it tells of every two places.
use Rattle.std.proofs.Common.{◌≡◌, ℕ, zero, suc, ◌<◌, Bool, true, false, not, ◌&&◌, ◌||◌, List, [], ◌∷◌, length, get_or, Some, sym, refl, ap, ◌∙◌, le_of_suc-le-suc, not-suc-le-zero}
use Rattle.std.specs.List.{slice_get}
use Rattle.std.specs.Str.{bytes_eq}
use Rattle.std.proofs.lemmas.Slice.Eq.{bytes_eq-Decides}
use Rattle.std.proofs.lemmas.Option.{none-some, same_Some, slice_get-get_or}
use Rattle.std.proofs.lemmas.Bool.{and_parts, not-true, or_left, or_right, both_ways}
use Rattle.motions.specs.Naming.{names, Distinct}

-- does x stand in the list
abbrev pub occurs : List ℕ → List (List ℕ) → Bool
occurs x [] = false
occurs x (y ∷ ys) = bytes_eq x y || occurs x ys

-- does no word stand twice
abbrev pub distinct : List (List ℕ) → Bool
distinct [] = true
distinct (x ∷ xs) = not (occurs x xs) && distinct xs

occurs_at : (x : List ℕ) (xs : List (List ℕ)) (j : ℕ) → slice_get xs j ≡ Some x → occurs x xs ≡ true
occurs_at x [] j e = absurd (none-some x e)
occurs_at x (y ∷ ys) zero e = or_left _ _ ((bytes_eq-Decides x y).1 (sym (same_Some y x e)))
occurs_at x (y ∷ ys) (suc j) e = or_right _ _ (occurs_at x ys j e)

-- the first word does not stand among the others
pub apart : (x : List ℕ) (xs : List (List ℕ)) (j : ℕ) → distinct (x ∷ xs) ≡ true → slice_get xs j ≡ Some x → ⊥
apart x xs j t e = both_ways (occurs x xs) (not-true _ (and_parts _ _ t).0) (occurs_at x xs j e)

at_place : (xs : List (List ℕ)) (x : List ℕ) (j : ℕ) → j < length xs → x ≡ get_or xs j [] → slice_get xs j ≡ Some x
at_place xs x j h e = slice_get-get_or xs j [] h ∙ ap Some (sym e)

sound : (xs : List (List ℕ)) → distinct xs ≡ true → Distinct xs
sound [] t i j h k e = absurd (not-suc-le-zero h)
sound (x ∷ xs) t zero zero h k e = refl
sound (x ∷ xs) t zero (suc j) h k e = absurd (apart x xs j t (at_place xs x j (le_of_suc-le-suc k) e))
sound (x ∷ xs) t (suc i) zero h k e = absurd (apart x xs i t (at_place xs x i (le_of_suc-le-suc h) (sym e)))
sound (x ∷ xs) t (suc i) (suc j) h k e = ap suc (sound xs (and_parts _ _ t).1 i j (le_of_suc-le-suc h) (le_of_suc-le-suc k) e)

pub names_distinct : Distinct names
names_distinct = sound names refl
