-- How many states below a bound a set has, and whether a test passes below a bound.
use Rattle.std.proofs.Common.{◌≡◌, ℕ, zero, suc, ◌+◌, ◌<◌, ◌≤◌, Bool, true, false, ◌||◌, ◌⊎◌, Decides, refl, ap, subst, inl, inr, ⊎_elim, le_refl, arith}
use native.Mathlib.Nat.{le_step}
use Rattle.std.proofs.lemmas.Bool.{cases_lt, cases_Bool, false_from_ne_true}
use Rattle.std.proofs.lemmas.Bool.Decides.{Decides-below_or, not_from_Decides}
use Rattle.process.specs.Sets.{has, In}

abbrev one_if : Bool → ℕ
one_if true = 1
one_if false = 0

most_one : (b : Bool) → one_if b ≤ 1
most_one true = omega arith
most_one false = omega arith

one_mono : (b c : Bool) → (b ≡ true → c ≡ true) → one_if b ≤ one_if c
one_mono true c h = omega (arith, ap one_if (h refl))
one_mono false c h = omega arith

is_one : (b : Bool) → 1 ≤ one_if b → b ≡ true
is_one true h = refl
is_one false h = absurd (omega arith)

-- the states below k of the set T, counted
unfoldable pub count : ℕ → ℕ → ℕ
count zero T = 0
count (suc k) T = one_if (has T k) + count k T

count_mono : (k S T : ℕ) → ((u : ℕ) → u < k → In S u → In T u) → count k S ≤ count k T
unfolding count
count_mono zero S T h = omega arith
count_mono (suc k) S T h =
    omega (arith, count_mono k S T (λ u l. h u (le_step l)), one_mono (has S k) (has T k) (h k (le_refl (suc k))))

pub count_more : (k S T v : ℕ) → ((u : ℕ) → u < k → In S u → In T u) → v < k → has S v ≡ false → In T v → count k S < count k T
unfolding count
count_more zero S T v h l no' yes' = absurd (omega arith)
count_more (suc k) S T v h l no' yes' = ⊎_elim (λ g. now (count_more k S T v (λ u l'. h u (le_step l')) g no' yes')) later (cases_lt v k)
  where
    now : count k S < count k T → count (suc k) S < count (suc k) T
    now ih = omega (arith, ih, one_mono (has S k) (has T k) (h k (le_refl (suc k))))

    later : k ≤ v → count (suc k) S < count (suc k) T
    later g =
        let same : v ≡ k = omega arith in
        let none : one_if (has S k) ≡ 0 = subst (λ x. one_if (has S x) ≡ 0) same (ap one_if no') in
        let one : one_if (has T k) ≡ 1 = subst (λ x. one_if (has T x) ≡ 1) same (ap one_if yes') in
        omega (arith, count_mono k S T (λ u l. h u (le_step l)))

pub count_le : (k T : ℕ) → count k T ≤ k
unfolding count
count_le zero T = omega arith
count_le (suc k) T = omega (arith, most_one (has T k), count_le k T)

pub count_full : (k T : ℕ) → k ≤ count k T → (u : ℕ) → u < k → In T u
unfolding count
count_full zero T h u l = absurd (omega arith)
count_full (suc k) T h u l = ⊎_elim (λ l'. count_full k T (omega (arith, most_one (has T k))) u l') last (cases_lt u k)
  where
    last : k ≤ u → In T u
    last l' =
        let same : k ≡ u = omega arith in
        subst (In T) same (is_one (has T k) (omega (arith, count_le k T)))

-- a test over the numbers below n passes somewhere or nowhere

abbrev passes_below : (ℕ → Bool) → ℕ → Bool
passes_below f zero = false
passes_below f (suc n) = f n || passes_below f n

pub find : (n : ℕ) (f : ℕ → Bool) → ((v : ℕ) × (v < n) × (f v ≡ true)) ⊎ ((v : ℕ) → v < n → f v ≡ false)
find n f = ⊎_elim (λ e. inl (D.0 e)) (λ e. inr (λ v l. false_from_ne_true (f v) (λ t. not_from_Decides (passes_below f n) D e (v, l, t)))) (cases_Bool (passes_below f n))
  where
    D : Decides (passes_below f n) ((v : ℕ) × (v < n) × (f v ≡ true))
    D = Decides-below_or f (λ v. f v ≡ true) (passes_below f) (λ v. (λ e. e, λ e. e)) refl (λ _. refl) n
