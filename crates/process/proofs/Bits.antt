-- Membership in sets of bits, and how a test splits.
use Rattle.std.proofs.Common.{◌≡◌, ℕ, zero, suc, ◌+◌, ◌-◌, ◌*◌, ◌/◌, ◌%◌, ◌^◌, ◌<◌, ◌≤◌, Bool, true, false, ◌||◌, eqb, ◌⊎◌, sym, refl, ap, ◌∙◌, subst, inl, inr, lt_of_lt_of_le, mod-lt, pow-suc, arith, pow_pos, pow_mono, pow-add, shr-shr}
use native.Mathlib.Nat.{zero-div, div-eq_of_lt, mul-mod_left}
use lib.Arith.{bin_ind}
use lib.Pow.{pow-lt, shl-shr, split as shr_split}
use lib.Bits.{bit_or, or_shr, or_mod, or_self}
use Rattle.std.proofs.lemmas.Bool.{eqb-true, eq-eqb, or_cases, or_left, or_right, both_ways, cases_lt, cases_eq, true≢false}
use Rattle.process.specs.Sets.{has, only, within, In}

-- a property of what a test picks, from the property of each
pub pick : {A : Type 0} (b : Bool) (x y : A) (P : A → Type 0) → (b ≡ true → P x) → (b ≡ false → P y) → P (elim b [ true ↦ x | false ↦ y ])
pick true x y P f g = f refl
pick false x y P f g = g refl

small : (x y : ℕ) → x < 2 → y < 2 → eqb (bit_or x y) 1 ≡ (eqb x 1 || eqb y 1)
small zero zero h k = refl
small zero (suc zero) h k = refl
small zero (suc (suc y)) h k = absurd (omega arith)
small (suc zero) zero h k = refl
small (suc zero) (suc zero) h k = refl
small (suc zero) (suc (suc y)) h k = absurd (omega arith)
small (suc (suc x)) y h k = absurd (omega arith)

pub has_or : (S T t : ℕ) → has (bit_or S T) t ≡ (has S t || has T t)
has_or S T t =
    ap (λ (n : ℕ). eqb (n % 2) 1) (or_shr S T t)
    ∙ ap (λ (n : ℕ). eqb n 1) (or_mod (S / 2 ^ t) (T / 2 ^ t) 1)
    ∙ small (S / 2 ^ t % 2) (T / 2 ^ t % 2) (mod-lt (S / 2 ^ t) (omega arith)) (mod-lt (T / 2 ^ t) (omega arith))

pub in_or : (S T t : ℕ) → In (bit_or S T) t → In S t ⊎ In T t
in_or S T t h = or_cases (has S t) (has T t) (sym (has_or S T t) ∙ h)

pub or_in_left : (S T t : ℕ) → In S t → In (bit_or S T) t
or_in_left S T t h = has_or S T t ∙ or_left (has S t) (has T t) h

pub or_in_right : (S T t : ℕ) → In T t → In (bit_or S T) t
or_in_right S T t h = has_or S T t ∙ or_right (has S t) (has T t) h

pub not_in_empty : (t : ℕ) → In 0 t → ⊥
not_in_empty t h = both_ways (has 0 t) (ap (λ (n : ℕ). eqb (n % 2) 1) (zero-div (2 ^ t))) h

pub in_only : (t : ℕ) → In (only t) t
in_only t = ap (λ (n : ℕ). eqb (n % 2) 1) (ap (λ (m : ℕ). m / 2 ^ t) (sym (one_times (2 ^ t))) ∙ shl-shr 1 t)
  where
    one_times : (n : ℕ) → 1 * n ≡ n
    one_times n = omega arith

-- a state past a set's size is not in it
pub in_below : (T n t : ℕ) → T < 2 ^ n → In T t → t < n
in_below T n t h i = below (cases_lt t n)
  where
    below : (t < n) ⊎ (n ≤ t) → t < n
    below (inl l) = l
    below (inr l) = absurd (both_ways (has T t) (ap (λ (m : ℕ). eqb (m % 2) 1) (div-eq_of_lt (lt_of_lt_of_le h (pow_mono l)))) i)

pub only_in : (u t : ℕ) → In (only u) t → t ≡ u
only_in u t i = by (cases_lt t u) (in_below (2 ^ u) (suc u) t (pow-lt (omega arith)) i)
  where
    above : t < u → ⊥
    above l =
        both_ways (has (2 ^ u) t)
        (ap (λ (m : ℕ). eqb (m / 2 ^ t % 2) 1) (ap (λ (e : ℕ). 2 ^ e) (split l) ∙ pow-add 2 (suc (u - suc t)) t)
        ∙ ap (λ (m : ℕ). eqb (m % 2) 1) (shl-shr (2 ^ suc (u - suc t)) t)
        ∙ ap (λ (m : ℕ). eqb (m % 2) 1) (pow-suc 2 (u - suc t))
        ∙ ap (λ (m : ℕ). eqb m 1) (mul-mod_left (2 ^ (u - suc t)) 2))
        i
      where
        split : t < u → u ≡ suc (u - suc t) + t
        split l = omega arith

    by : (t < u) ⊎ (u ≤ t) → t < suc u → t ≡ u
    by (inl l) k = absurd (above l)
    by (inr l) k = omega arith

-- a set that is not 0 has a state
pub some_in : (T : ℕ) → 0 < T → (t : ℕ) × In T t
some_in = bin_ind (λ (n : ℕ). 0 < n → (t : ℕ) × In n t) (λ h. absurd (omega arith)) step
  where
    step : (n : ℕ) → (0 < n / 2 → (t : ℕ) × In (n / 2) t) → 0 < n → (t : ℕ) × In n t
    step n ih h = at (cases_eq (n % 2) 1)
      where
        shift : (t : ℕ) → In (n / 2) t → In n (suc t)
        shift t i = ap (λ (m : ℕ). eqb (m % 2) 1) (ap (λ (e : ℕ). n / 2 ^ e) (one_more t) ∙ sym (shr-shr n 1 t)) ∙ i
          where
            one_more : (t : ℕ) → suc t ≡ 1 + t
            one_more t = omega arith

        at : (n % 2 ≡ 1) ⊎ (n % 2 ≡ 1 → ⊥) → (t : ℕ) × In n t
        at (inl e) = (0, ap (λ (m : ℕ). eqb (m % 2) 1) (div_1 n) ∙ eq-eqb (n % 2) 1 e)
          where
            div_1 : (n : ℕ) → n / 1 ≡ n
            div_1 n = omega arith
        at (inr e) = let r = ih (omega arith) in (suc r.0, shift r.0 r.1)

pub within_in : (S T : ℕ) → within S T ≡ true → (t : ℕ) → In S t → In T t
within_in S T h t i = subst (λ (n : ℕ). In n t) (eqb-true (bit_or S T) T h) (or_in_left S T t i)

pub within_self : (T : ℕ) → within T T ≡ true
within_self T = eq-eqb (bit_or T T) T (or_self T)

shift_has : (n t : ℕ) → has (n / 2) t ≡ has n (suc t)
shift_has n t = ap (λ (m : ℕ). eqb (m % 2) 1) (shr-shr n 1 t ∙ ap (λ (e : ℕ). n / 2 ^ e) (one_more t))
  where
    one_more : (t : ℕ) → 1 + t ≡ suc t
    one_more t = omega arith

parity : (x y : ℕ) → x < 2 → y < 2 → eqb x 1 ≡ eqb y 1 → x ≡ y
parity zero zero h k e = refl
parity zero (suc zero) h k e = absurd (true≢false (sym e))
parity zero (suc (suc y)) h k e = absurd (omega arith)
parity (suc zero) zero h k e = absurd (true≢false e)
parity (suc zero) (suc zero) h k e = refl
parity (suc zero) (suc (suc y)) h k e = absurd (omega arith)
parity (suc (suc x)) y h k e = absurd (omega arith)

-- sets with the same states are the same number
pub ext : (A B : ℕ) → ((t : ℕ) → has A t ≡ has B t) → A ≡ B
ext = bin_ind (λ (n : ℕ). (B : ℕ) → ((t : ℕ) → has n t ≡ has B t) → n ≡ B) base step
  where
    base : (B : ℕ) → ((t : ℕ) → has 0 t ≡ has B t) → 0 ≡ B
    base B h = at (cases_lt 0 B)
      where
        at : (0 < B) ⊎ (B ≤ 0) → 0 ≡ B
        at (inl l) = let s = some_in B l in absurd (not_in_empty s.0 (h s.0 ∙ s.1))
        at (inr l) = omega arith

    step : (n : ℕ) → ((B : ℕ) → ((t : ℕ) → has (n / 2) t ≡ has B t) → n / 2 ≡ B) → (B : ℕ) → ((t : ℕ) → has n t ≡ has B t) → n ≡ B
    step n ih B h =
        let high = ih (B / 2) (λ t. shift_has n t ∙ h (suc t) ∙ sym (shift_has B t)) in
        let low = parity (n % 2) (B % 2) (mod-lt n (omega arith)) (mod-lt B (omega arith)) (sym (first n) ∙ h 0 ∙ first B) in
        omega arith
      where
        first : (n : ℕ) → has n 0 ≡ eqb (n % 2) 1
        first n = ap (λ (m : ℕ). eqb (m % 2) 1) (div_1 n)
          where
            div_1 : (n : ℕ) → n / 1 ≡ n
            div_1 n = omega arith

absorb : (x y : Bool) → (x ≡ true → y ≡ true) → (x || y) ≡ y
absorb true y h = sym (h refl)
absorb false y h = refl

pub in_within : (S T : ℕ) → ((t : ℕ) → In S t → In T t) → within S T ≡ true
in_within S T h = eq-eqb (bit_or S T) T (ext (bit_or S T) T (λ t. has_or S T t ∙ absorb (has S t) (has T t) (h t)))

pub positive : (T t : ℕ) → In T t → 0 < T
positive T t i = at (cases_lt 0 T)
  where
    at : (0 < T) ⊎ (T ≤ 0) → 0 < T
    at (inl l) = l
    at (inr l) = let z : T ≡ 0 = omega arith in absurd (not_in_empty t (subst (λ (n : ℕ). In n t) z i))

pub set_below : (T n : ℕ) → ((t : ℕ) → In T t → t < n) → T < 2 ^ n
set_below T n h = at (cases_lt 0 (T / 2 ^ n))
  where
    at : (0 < T / 2 ^ n) ⊎ (T / 2 ^ n ≤ 0) → T < 2 ^ n
    at (inl l) =
        let s = some_in (T / 2 ^ n) l in
        let bad = h (n + s.0) (ap (λ (m : ℕ). eqb (m % 2) 1) (sym (shr-shr T n s.0)) ∙ s.1) in
        absurd (omega arith)
    at (inr l) =
        let z : T / 2 ^ n ≡ 0 = omega arith in
        let m = mod-lt T (pow_pos n) in
        subst (λ (x : ℕ). x < 2 ^ n) (ap (λ (q : ℕ). q * 2 ^ n + T % 2 ^ n) (sym z) ∙ shr_split T n) (plain m)
      where
        plain : T % 2 ^ n < 2 ^ n → 0 * 2 ^ n + T % 2 ^ n < 2 ^ n
        plain m = omega arith

-- a state past a set's size is not in it
pub out_above : (T n t : ℕ) → T < 2 ^ n → n ≤ t → has T t ≡ false
out_above T n t h l = ap (λ (m : ℕ). eqb (m % 2) 1) (div-eq_of_lt (lt_of_lt_of_le h (pow_mono l)))
