-- What `each` and `some` say of single numbers, and their steps.
use Rattle.std.specs.Prelude.{◌≡◌, ℕ, suc, ◌+◌, ◌<◌, Bool, true, false, ◌&&◌, ◌||◌, List, [], ◌∷◌, ◌++◌, length, take, drop, slice_index_or, slice_set, refl}
use Rattle.std.specs.List.{list_all, list_any, range_with_len}
use Rattle.std.proofs.Common.{sym, ap, ◌∙◌, ⊎_elim, subst, arith, add-one, drop-cons, get_or}
use Rattle.std.proofs.lemmas.List.{take_more, take_more_set}
use Rattle.std.proofs.lemmas.List.Folds.{list_all_at, list_any_at}
use Rattle.std.proofs.lemmas.List.FromFn.{length-range_with_len, get_or-range_with_len}
use Rattle.std.proofs.lemmas.List.Recursion.{and_at, and_from_places}
use Rattle.std.proofs.lemmas.Bool.{cases_lt, false_from_ne_true, false≢true, true≢false}
use Rattle.formtable.specs.Vet.{each, some, allowed, all_allowed}
use Rattle.formtable.specs.declared.record.Record.{Record}

-- the numbers below n, from 0 on
abbrev below : ℕ → List ℕ
below n = range_with_len 0 n

module _ (p : ℕ → Bool) (n : ℕ) where
  there : (i : ℕ) → i < n → get_or (below n) i 0 ≡ i
  there i h = let at = get_or-range_with_len 0 n i 0 h in omega arith

  inside : (i : ℕ) → i < n → i < length (below n)
  inside i h = omega (arith, length-range_with_len 0 n)

  pub each_at : (i : ℕ) → i < n → each p n ≡ true → p i ≡ true
  each_at i h e = ap p (sym (there i h)) ∙ and_at (list_all p) p refl (λ _ _. refl) (below n) i 0 (inside i h) e

  pub each_all : ((i : ℕ) → i < n → p i ≡ true) → each p n ≡ true
  each_all all =
      and_from_places (list_all p) p refl (λ _ _. refl) (below n) 0
      (λ i h. let l : i < n = omega (arith, length-range_with_len 0 n) in ap p (there i l) ∙ all i l)

  pub each_fails : (i : ℕ) → i < n → p i ≡ false → each p n ≡ false
  each_fails i h e = list_all_at p (below n) i 0 (inside i h) (ap p (there i h) ∙ e)

  pub some_holds : (i : ℕ) → i < n → p i ≡ true → some p n ≡ true
  some_holds i h e = list_any_at p (below n) i 0 (inside i h) (ap p (there i h) ∙ e)

  -- the number at a place is below n
  found : {P : ℕ → Type 0} → (i : ℕ) × (i < length (below n)) × P (get_or (below n) i 0) → (i : ℕ) × (i < n) × P i
  found {P} f =
      let l : f.0 < n = omega (arith, length-range_with_len 0 n, f.1) in (f.0, l, subst P (there f.0 l) f.2)

some_place : (p : ℕ → Bool) (xs : List ℕ) → list_any p xs ≡ true → (i : ℕ) × (i < length xs) × (p (get_or xs i 0) ≡ true)
some_place p [] e = absurd (false≢true e)
some_place p (x ∷ xs) e = here (p x) refl e (some_place p xs)
  where
    here : (b : Bool) → p x ≡ b → (b || list_any p xs) ≡ true → (list_any p xs ≡ true → (i : ℕ) × (i < length xs) × (p (get_or xs i 0) ≡ true)) → (i : ℕ) × (i < suc (length xs)) × (p (get_or (x ∷ xs) i 0) ≡ true)
    here true q s k = (0, omega arith, q)
    here false q s k = let v = k s in (suc v.0, omega (arith, v.1), v.2)

not_place : (p : ℕ → Bool) (xs : List ℕ) → list_all p xs ≡ false → (i : ℕ) × (i < length xs) × (p (get_or xs i 0) ≡ false)
not_place p [] e = absurd (true≢false e)
not_place p (x ∷ xs) e = here (p x) refl e (not_place p xs)
  where
    here : (b : Bool) → p x ≡ b → (b && list_all p xs) ≡ false → (list_all p xs ≡ false → (i : ℕ) × (i < length xs) × (p (get_or xs i 0) ≡ false)) → (i : ℕ) × (i < suc (length xs)) × (p (get_or (x ∷ xs) i 0) ≡ false)
    here true q s k = let v = k s in (suc v.0, omega (arith, v.1), v.2)
    here false q s k = (0, omega arith, q)

pub some_at : (p : ℕ → Bool) (n : ℕ) → some p n ≡ true → (i : ℕ) × (i < n) × (p i ≡ true)
some_at p n e = found p n {P = λ i. p i ≡ true} (some_place p (below n) e)

pub each_not : (p : ℕ → Bool) (n : ℕ) → each p n ≡ false → (i : ℕ) × (i < n) × (p i ≡ false)
each_not p n e = found p n {P = λ i. p i ≡ false} (not_place p (below n) e)

-- one more number
pub each_more : (p : ℕ → Bool) (i : ℕ) → each p i ≡ true → p i ≡ true → each p (i + 1) ≡ true
each_more p i h e =
    each_all p (i + 1)
    (λ j l.
    ⊎_elim {C = p j ≡ true}
    (λ k. each_at p i j k h)
    (λ k. let same : j ≡ i = omega arith in ap p same ∙ e)
    (cases_lt j i))

pub some_more : (p : ℕ → Bool) (i : ℕ) → some p i ≡ false → p i ≡ false → some p (i + 1) ≡ false
some_more p i h e =
    false_from_ne_true (some p (i + 1))
    (λ y.
    let v = some_at p (i + 1) y in
    ⊎_elim {C = ⊥}
    (λ k. false≢true (sym h ∙ some_holds p i v.0 k v.2))
    (λ k. let same : i ≡ v.0 = omega (arith, v.1) in false≢true (sym e ∙ ap p same ∙ v.2))
    (cases_lt v.0 i))

-- one more record tested
pub allowed_step : (rs : List Record) (i : ℕ) (d : Record) → i < length rs → all_allowed (drop i rs) ≡ allowed (slice_index_or rs i d) && all_allowed (drop (i + 1) rs)
allowed_step rs i d h = rw add-one (ap all_allowed (drop-cons rs i d h))

-- one more record copied
pub copy_more : (rs raw : List Record) (i : ℕ) (d : Record) → i < length rs → i < length raw → take i rs ≡ take i raw → take (i + 1) (slice_set rs i (slice_index_or raw i d)) ≡ take (i + 1) raw
copy_more rs raw i d h k e = take_more_set rs i (slice_index_or raw i d) h ∙ ap (λ (l : List Record). l ++ slice_index_or raw i d ∷ []) e ∙ sym (take_more raw i d k)
