-- The look-ups by word and by motion.
use Rattle.std.proofs.Common.{◌≡◌, ℕ, zero, suc, ◌+◌, ◌-◌, Bool, true, false, cond, ◌&&◌, eqb, ltb, ◌⊎◌, List, [], ◌∷◌, map, length, IfSome, Some, None, Option, Bor, sym, refl, ap, ◌∙◌, inl, inr, add-one, arith}
use Rattle.std.specs.Option.{option_map}
use Rattle.std.specs.List.{slice_get, list_all}
use Rattle.std.specs.Str.{bytes_eq, IsAscii, IsUtf8}
use Rattle.std.proofs.lemmas.Str.{IsUtf8-from_ascii}
use Rattle.std.proofs.lemmas.Slice.Eq.{bytes_eq-Decides}
use Rattle.std.proofs.lemmas.Option.{none-some, same_Some, slice_get_within, get_or_from_slice_get}
use Rattle.std.proofs.lemmas.Bool.{and_parts, ltb-true, cases_Bool, cond-true, cond-false, ne_eqb}
use Rattle.std.proofs.lemmas.List.Recursion.{and_at}
use Rattle.common.specs.First.{FirstWith, first}
use Rattle.common.proofs.Firsts.{first_is}
use Rattle.motions.specs.declared.words.Name.{Name}
use Rattle.motions.specs.Naming.{names, letters_of, place_of, motion_of, name_of, Names, OneToOne, Short}
use Rattle.motions.proofs.Distinctness.{distinct, apart}

-- the first of mapped records
first_map : {X Y : Type 0} (f : X → Y) (test : Y → Bool) (xs : List X) → first (λ x. test (f x)) xs ≡ first test (map f xs)
first_map f test [] = refl
first_map f test (x ∷ xs) = ap (λ (o : Option ℕ). cond (test (f x)) (Some 0) (option_map suc o)) (first_map f test xs)

-- what is found among the records of the table is found in the list of names
pub found_is : (xs : List Name) (w : List ℕ) (r : Option ℕ) → map letters_of xs ≡ names → FirstWith (λ x. letters_of x ≡ w) xs r → r ≡ place_of w
found_is xs w r e h =
    first_is (λ x. letters_of x ≡ w) (λ x. bytes_eq (letters_of x) w) (λ x. bytes_eq-Decides (letters_of x) w) xs r h
    ∙ first_map letters_of (λ x. bytes_eq x w) xs
    ∙ ap (first (λ x. bytes_eq x w)) e

-- is a word 1 to 8 letters long
abbrev short : List ℕ → Bool
short w = ltb 0 (length w) && ltb (length w) 9

-- every name is
pub name_short : (w : List ℕ) (i : ℕ) → slice_get names i ≡ Some w → Short w
name_short w i e =
    let at = and_at (list_all short) short refl (λ _ _. refl) names i w (slice_get_within names i w e) refl in
    let t = and_parts (ltb 0 (length w)) (ltb (length w) 9) (ap short (sym (get_or_from_slice_get names i w w e)) ∙ at) in
    (omega (arith, ltb-true 0 (length w) t.0), omega (arith, ltb-true (length w) 9 t.1))

pub short_there : (r : Option (Bor (List ℕ))) (i : ℕ) → option_map (λ w. w.now) r ≡ slice_get names i → IfSome r (λ w. Short w.now)
short_there None i e = tt
short_there (Some w) i e = name_short w.now i (sym e)

-- where a mapped answer is a number, so is the answer
number_behind : (f : ℕ → ℕ) (o : Option ℕ) (i : ℕ) → option_map f o ≡ Some i → (k : ℕ) × (i ≡ f k) × (o ≡ Some k)
number_behind f None i e = absurd (none-some i e)
number_behind f (Some k) i e = (k, sym (same_Some (f k) i e), refl)

-- the first word equal to w is w
word_at : (xs : List (List ℕ)) (w : List ℕ) (i : ℕ) → first (λ x. bytes_eq x w) xs ≡ Some i → slice_get xs i ≡ Some w
word_at [] w i e = absurd (none-some i e)
word_at (x ∷ xs) w i e = by (cases_Bool (bytes_eq x w)) (λ k. word_at xs w k)
  where
    by : (bytes_eq x w ≡ true) ⊎ (bytes_eq x w ≡ false) → ((k : ℕ) → first (λ y. bytes_eq y w) xs ≡ Some k → slice_get xs k ≡ Some w) → slice_get (x ∷ xs) i ≡ Some w
    by (inl t) more =
        ap (slice_get (x ∷ xs)) (sym (same_Some 0 i (sym (cond-true _ _ _ t) ∙ e)))
        ∙ ap Some ((bytes_eq-Decides x w).0 t)
    by (inr f) more =
        let k = number_behind suc (first (λ y. bytes_eq y w) xs) i (sym (cond-false _ _ _ f) ∙ e) in
        ap (slice_get (x ∷ xs)) k.1 ∙ more k.0 k.2

-- where no word stands twice, each stands at the first place equal to it
first_at : (xs : List (List ℕ)) (w : List ℕ) (i : ℕ) → distinct xs ≡ true → slice_get xs i ≡ Some w → first (λ x. bytes_eq x w) xs ≡ Some i
first_at [] w i t e = absurd (none-some w e)
first_at (x ∷ xs) w zero t e = cond-true _ _ _ ((bytes_eq-Decides x w).1 (same_Some x w e))
first_at (x ∷ xs) w (suc i) t e = by (cases_Bool (bytes_eq x w)) (first_at xs w i (and_parts _ _ t).1 e)
  where
    by : (bytes_eq x w ≡ true) ⊎ (bytes_eq x w ≡ false) → first (λ y. bytes_eq y w) xs ≡ Some i → first (λ y. bytes_eq y w) (x ∷ xs) ≡ Some (suc i)
    by (inl s) more = absurd (apart x xs i t (e ∙ ap Some (sym ((bytes_eq-Decides x w).0 s))))
    by (inr f) more = cond-false _ _ _ f ∙ ap (option_map suc) more

pub name_suc : (i : ℕ) → name_of (suc i) ≡ slice_get names i
name_suc i =
    let down : suc i - 1 ≡ i = omega arith in
    cond-false (eqb (suc i) 0) None (slice_get names (suc i - 1)) (ne_eqb (suc i) 0 (λ e. omega arith)) ∙ ap (slice_get names) down

pub one_to_one : OneToOne
one_to_one w zero = (λ e. absurd (never (number_behind (λ i. i + 1) (place_of w) 0 e)), λ e. absurd (none-some w e))
  where
    never : (k : ℕ) × (0 ≡ k + 1) × (place_of w ≡ Some k) → ⊥
    never (k, z, _) = omega arith
one_to_one w (suc i) = (λ e. there (number_behind (λ i. i + 1) (place_of w) (suc i) e), back)
  where
    there : (k : ℕ) × (suc i ≡ k + 1) × (place_of w ≡ Some k) → Names w (suc i)
    there (k, z, f) = let same : i ≡ k = omega arith in name_suc i ∙ ap (slice_get names) same ∙ word_at names w k f

    back : Names w (suc i) → motion_of w ≡ Some (suc i)
    back e = ap (option_map (λ i. i + 1)) (first_at names w i refl (sym (name_suc i) ∙ e)) ∙ ap Some (add-one i)

abbrev plain : List ℕ → Bool
plain w = list_all (λ b. ltb b 128) w

plain_ascii : (w : List ℕ) → plain w ≡ true → IsAscii w
plain_ascii [] t i = omega arith
plain_ascii (b ∷ w) t zero = ltb-true b 128 (and_parts (ltb b 128) (plain w) t).0
plain_ascii (b ∷ w) t (suc i) = plain_ascii w (and_parts (ltb b 128) (plain w) t).1 i

-- every name is a text
pub text_there : (r : Option (Bor (List ℕ))) (m : ℕ) → option_map (λ w. w.now) r ≡ name_of m → IfSome r (λ w. IsUtf8 w.now)
text_there None m e = tt
text_there (Some w) zero e = absurd (none-some w.now (sym e))
text_there (Some w) (suc i) e =
    let named = sym (name_suc i) ∙ sym e in
    let at = and_at (list_all plain) plain refl (λ _ _. refl) names i w.now (slice_get_within names i w.now named) refl in
    IsUtf8-from_ascii w.now (plain_ascii w.now (ap plain (sym (get_or_from_slice_get names i w.now w.now named)) ∙ at))
