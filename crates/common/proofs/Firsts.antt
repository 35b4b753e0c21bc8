-- What looks up the first record gives the value of `first`, for every test that decides the property.
use Rattle.std.proofs.Common.{◌≡◌, ℕ, zero, suc, Bool, true, false, ◌⊎◌, List, [], ◌∷◌, Some, None, Decides, Option, sym, refl, ap, ◌∙◌, inl, inr, le_of_suc-le-suc, not-suc-le-zero, arith}
use Rattle.std.specs.Option.{option_map}
use Rattle.std.specs.List.{AllWithin}
use Rattle.std.proofs.lemmas.Bool.{cases_Bool, cond-true, cond-false}
use Rattle.common.specs.First.{FirstWith, first}

module _ {X : Type 0} (P : X → Type 0) (test : X → Bool) (decides : (x : X) → Decides (test x) (P x)) where
  -- a record without the property fails the test
  failed : (x : X) → (P x → ⊥) → test x ≡ false
  failed x n = by (cases_Bool (test x))
    where
      by : (test x ≡ true) ⊎ (test x ≡ false) → test x ≡ false
      by (inl t) = absurd (n ((decides x).0 t))
      by (inr f) = f

  -- behind a record that fails the test, the first is one further
  skipped : (x : X) (xs : List X) → AllWithin (λ y. P y → ⊥) (x ∷ xs) 0 1 → option_map suc (first test xs) ≡ first test (x ∷ xs)
  skipped x xs e = sym (cond-false (test x) (Some 0) (option_map suc (first test xs)) (failed x (e 0 x (omega arith) (omega arith))))

  pub first_is : (xs : List X) (r : Option ℕ) → FirstWith P xs r → r ≡ first test xs
  first_is [] (Some i) (h, at, e) = absurd (not-suc-le-zero h)
  first_is [] None e = refl
  first_is (x ∷ xs) (Some zero) (h, at, e) = sym (cond-true (test x) (Some 0) (option_map suc (first test xs)) ((decides x).1 (at x)))
  first_is (x ∷ xs) (Some (suc i)) (h, at, e) =
      ap (option_map suc) (first_is xs (Some i) (le_of_suc-le-suc h, at, λ k d _ l. e (suc k) d (omega arith) (omega arith)))
      ∙ skipped x xs (λ k d _ l. e k d (omega arith) (omega arith))
  first_is (x ∷ xs) None e =
      ap (option_map suc) (first_is xs None (λ k d _ l. e (suc k) d (omega arith) (omega arith)))
      ∙ skipped x xs (λ k d _ l. e k d (omega arith) (omega arith))
