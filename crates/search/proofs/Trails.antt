-- The way back from a row, and the motions along it.
use Rattle.std.proofs.Common.{◌≡◌, ℕ, zero, suc, ◌+◌, ◌<◌, ◌≤◌, List, [], ◌∷◌, length, get_or, take, sym, refl, ap, ◌∙◌, le_refl, arith, get_or-take}
use Rattle.std.proofs.lemmas.Bool.Decides.{nat_tests}
use Rattle.certificate.specs.Rows.{empty_row}
use Rattle.certificate.specs.declared.Row.{Row}
use Rattle.search.specs.Back.{Earlier, way_back, along}
use Rattle.search.specs.Engine.{trail}

-- a bound more or less changes nothing, where it is no less than the place
way_bound : (d e : ℕ) (rows : List Row) (i : ℕ) → Earlier rows → i < length rows → i ≤ d → i ≤ e → way_back d rows i ≡ way_back e rows i
way_bound zero zero rows i E l p q = refl
way_bound zero (suc e) rows zero E l p q = refl
way_bound zero (suc e) rows (suc k) E l p q = absurd (omega arith)
way_bound (suc d) zero rows zero E l p q = refl
way_bound (suc d) zero rows (suc k) E l p q = absurd (omega arith)
way_bound (suc d) (suc e) rows zero E l p q = refl
way_bound (suc d) (suc e) rows (suc k) E l p q =
    let r = get_or rows (suc k) empty_row in
    let b = E k l in
    ap (λ (xs : List Row). r ∷ xs) (way_bound d e rows r.back E (omega arith) (omega arith) (omega arith))

-- it goes on from the row that the first comes from
pub way_next : (rows : List Row) (i : ℕ) → Earlier rows → i < length rows → (i ≡ 0 → ⊥)
    → way_back i rows i ≡ get_or rows i empty_row ∷ way_back (get_or rows i empty_row).back rows (get_or rows i empty_row).back
way_next rows zero E l n = absurd (n refl)
way_next rows (suc k) E l n =
    let r = get_or rows (suc k) empty_row in
    let b = E k l in
    ap (λ (xs : List Row). r ∷ xs) (way_bound k r.back rows r.back E (omega arith) b (le_refl r.back))

pub length_way_back : (d : ℕ) (rows : List Row) (i : ℕ) → length (way_back d rows i) ≤ d
length_way_back zero rows i = omega arith
length_way_back (suc d) rows zero = omega arith
length_way_back (suc d) rows (suc k) = omega (arith, length_way_back d rows (get_or rows (suc k) empty_row).back)

-- it goes through the rows up to there alone
way_front : (d n : ℕ) (rows : List Row) (i : ℕ) → Earlier rows → n ≤ length rows → i < n → way_back d (take n rows) i ≡ way_back d rows i
way_front zero n rows i E h l = refl
way_front (suc d) n rows zero E h l = refl
way_front (suc d) n rows (suc k) E h l =
    let r = get_or rows (suc k) empty_row in
    let b = E k (omega arith) in
    ap (λ (x : Row). x ∷ way_back d (take n rows) x.back) (get_or-take n rows (suc k) empty_row l)
    ∙ ap (λ (xs : List Row). r ∷ xs) (way_front d n rows r.back E h (omega arith))

trail_next : (d : ℕ) (rows : List Row) (k : ℕ) (w : List ℕ) → trail (suc d) rows (suc k) w ≡ trail d rows (get_or rows (suc k) empty_row).back ((get_or rows (suc k) empty_row).by ∷ w)
trail_next d rows k w = grind (arith, nat_tests)

-- the motions along it
pub trail_along : (d : ℕ) (rows : List Row) (i : ℕ) (w : List ℕ) → trail d rows i w ≡ along (way_back d rows i) w
trail_along zero rows i w = refl
trail_along (suc d) rows zero w = refl
trail_along (suc d) rows (suc k) w =
    let r = get_or rows (suc k) empty_row in
    trail_next d rows k w ∙ trail_along d rows r.back (r.by ∷ w)

pub length_along : (rows : List Row) (w : List ℕ) → length (along rows w) ≡ length rows + length w
length_along [] w = omega arith
length_along (r ∷ rows) w = omega (arith, length_along rows (r.by ∷ w))

pub trail_front : (d n : ℕ) (rows : List Row) (i : ℕ) (w : List ℕ) → Earlier rows → n ≤ length rows → i < n → trail d rows i w ≡ trail d (take n rows) i w
trail_front d n rows i w E h l =
    trail_along d rows i w ∙ ap (λ (xs : List Row). along xs w) (sym (way_front d n rows i E h l)) ∙ sym (trail_along d (take n rows) i w)
