-- The motions along a way back, written from the last one on.
use Rattle.std.proofs.Common.{◌≡◌, ℕ, ◌+◌, ◌<◌, ◌≤◌, List, [], ◌∷◌, length, take, drop, set, refl, ap, ◌∙◌, subst, arith, length-take-le}
use lib.Seq.{take-set-lt}
use Rattle.std.proofs.lemmas.List.{drop-set, drop_all}
use Rattle.std.proofs.lemmas.Bool.Decides.{nat_tests}
use Rattle.certificate.specs.declared.Row.{Row}
use Rattle.search.specs.Back.{along}
use Rattle.search.specs.Search.{beyond, fault, shown}
use Rattle.search.proofs.Trails.{length_way_back, length_along}

-- those along the rows that are left, in front of what stands from place `end` to place n, are all of them, w
pub record Writes (left : List Row) (start end n : ℕ) (motions w : List ℕ) : Type 0 where
  pub from_0 : start ≡ 0
  pub inside : end ≤ n
  pub as_many : end ≡ length left
  pub whole : along left (drop end (take (n + 1) motions)) ≡ w

-- a motion is written in front of those at the end of the first n
write_front : (motions : List ℕ) (k n x : ℕ) → k < n → n ≤ length motions → drop k (take n (set motions k x)) ≡ x ∷ drop (k + 1) (take n motions)
write_front motions k n x l h =
    let long = length-take-le n motions h in
    ap (drop k) (take-set-lt n motions k x l) ∙ drop-set (take n motions) k x (omega arith)

-- the last one is written
pub writes_last : (left : List Row) (n x : ℕ) (motions : List ℕ) → n ≡ length left → n < length motions → Writes left 0 n n (set motions n x) (along left (x ∷ []))
writes_last left n x motions e l =
    let long = length-take-le (n + 1) motions (omega arith) in
    record {
      from_0 = refl;
      inside = omega arith;
      as_many = e;
      whole =
          ap (along left)
          (write_front motions n (n + 1) x (omega arith) (omega arith) ∙ ap (λ (v : List ℕ). x ∷ v) (drop_all (n + 1) (take (n + 1) motions) (omega arith)));
    }

-- one more is written
pub writes_on : (r : Row) (left : List Row) (s e k n : ℕ) (motions w : List ℕ) → Writes (r ∷ left) s e n motions w → n < length motions → e ≡ k + 1 → Writes left s k n (set motions k r.by) w
writes_on r left s e k n motions w W l q =
    let i = W.inside in
    let a = W.as_many in
    record {
      from_0 = W.from_0;
      inside = omega arith;
      as_many = omega arith;
      whole =
          ap (along left) (write_front motions k (n + 1) r.by (omega arith) (omega arith))
          ∙ subst (λ (j : ℕ). along left (r.by ∷ drop j (take (n + 1) motions)) ≡ w) q W.whole;
    }

-- all are written
pub writes_all : (left : List Row) (s e n : ℕ) (motions w : List ℕ) → Writes left s e n motions w → e ≡ 0 → take (n + 1) motions ≡ w
writes_all [] s e n motions w W z = subst (λ (j : ℕ). drop j (take (n + 1) motions) ≡ w) z W.whole
writes_all (r ∷ left) s e n motions w W z = let a = W.as_many in absurd (omega arith)

module _ (left : List Row) (a m n : ℕ) (e : n ≡ length left) where
  -- there is no room for them
  pub no_room : m ≤ n → fault 42 ≡ shown m (along left (a ∷ []))
  no_room l = grind (arith, nat_tests, length_along left (a ∷ []))

  -- there is
  pub room : (w : List ℕ) → n < m → w ≡ along left (a ∷ []) → beyond w ≡ shown m (along left (a ∷ []))
  room w l s = grind (arith, nat_tests, length_along left (a ∷ []))

pub ruleset steps = (length_way_back, writes_last, writes_on, writes_all, no_room, room)
