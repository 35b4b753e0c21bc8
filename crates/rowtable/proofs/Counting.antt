-- How many moves the rows give.
use Rattle.std.proofs.Common.{◌≡◌, ◌==◌, ℕ, zero, suc, ◌+◌, ◌≤◌, Bool, true, false, cond, count_by, eqb, ltb, List, [], ◌∷◌, map, length, sum_by, sym, refl, ap, ◌∙◌, add-one, arith}
use Rattle.std.specs.List.{range_with_len}
use Rattle.std.proofs.lemmas.Bool.Decides.{nat_tests}
use Rattle.std.proofs.lemmas.List.{length-map}
use Rattle.std.proofs.lemmas.List.FromFn.{sum_by-map-range_with_len_more}
use Rattle.std.proofs.lemmas.List.Sums.{length-filter}
use Rattle.rowtable.specs.Rows.{move_of, moves_of}
use Rattle.rowtable.specs.Tables.{rows_of}
use Rattle.rowtable.specs.declared.transition.Transition.{Transition}

pub counted : (s : ℕ) (rs : List Transition) → count_by (λ r. r.from == s) rs ≡ length (moves_of s rs)
counted s rs = sym (length-map (rows_of s rs) move_of ∙ length-filter (λ r. r.from == s) rs)

-- 1 where the test is passed
abbrev one : Bool → ℕ
one b = cond b 1 0

length_first : (s : ℕ) (r : Transition) (rs : List Transition) → length (moves_of s (r ∷ rs)) ≡ one (eqb r.from s) + length (moves_of s rs)
length_first s r rs = go (eqb r.from s)
  where
    go : (b : Bool) → length (map move_of (cond b (r ∷ rows_of s rs) (rows_of s rs))) ≡ one b + length (moves_of s rs)
    go true = omega arith
    go false = omega arith

-- the moves of the states below n
abbrev below : ℕ → List Transition → ℕ
below n rs = sum_by length (map (λ s. moves_of s rs) (range_with_len 0 n))

below_more : (n : ℕ) (rs : List Transition) → below (suc n) rs ≡ below n rs + length (moves_of n rs)
below_more n rs = ap (λ k. below k rs) (sym (add-one n)) ∙ sum_by-map-range_with_len_more length (λ s. moves_of s rs) 0 n n (omega arith)

-- each row gives at most one of the moves
below_first : (n : ℕ) (r : Transition) (rs : List Transition) → below n (r ∷ rs) ≡ one (ltb r.from n) + below n rs
below_first zero r rs = grind (arith, nat_tests)
below_first (suc n) r rs =
    let a = below_more n (r ∷ rs) in
    let b = below_more n rs in
    let h = below_first n r rs in
    let f = length_first n r rs in
    let o : one (ltb r.from (suc n)) ≡ one (ltb r.from n) + one (eqb r.from n) = grind (arith, nat_tests) in
    omega arith

none_below : (n : ℕ) → below n [] ≡ 0
none_below zero = refl
none_below (suc n) = omega (arith, below_more n [], none_below n)

-- all states have no more moves than there are rows
pub total : (n : ℕ) (rs : List Transition) → below n rs ≤ length rs
total n [] = omega (arith, none_below n)
total n (r ∷ rs) =
    let h = total n rs in
    let f = below_first n r rs in
    let o : one (ltb r.from n) ≤ 1 = grind (arith, nat_tests) in
    omega arith

-- so the moves of the states below s leave room for those of s
pub room_for_state : (s : ℕ) (rs : List Transition) → below s rs + length (moves_of s rs) ≤ length rs
room_for_state s rs = omega (arith, below_more s rs, total (suc s) rs)
