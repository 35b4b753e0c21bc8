-- The listing worked without a limit comes to an end: its rows are different pairs of a state and a set, and those are few.
use Rattle.std.proofs.Common.{◌≡◌, ℕ, suc, ◌+◌, ◌*◌, ◌/◌, ◌%◌, ◌^◌, ◌<◌, ◌≤◌, true, false, eqb, List, length, get_or, map, sym, refl, ap, ◌∙◌, subst, ⊎_elim, arith}
use Rattle.std.proofs.lemmas.List.{length-map, get_or-map}
use Rattle.std.proofs.lemmas.List.Folds.{Any-from_list_any}
use Rattle.std.proofs.lemmas.Map.Keys.{IsDistinct-from_apart}
use Rattle.std.proofs.lemmas.Map.Steps.{length-le_from_distinct_below}
use Rattle.std.specs.List.{list_any}
use lib.Arith.{digits_lt}
use lib.Pow.{high, low}
use Rattle.std.proofs.lemmas.Bool.{eqb-true, ne_eqb}
use Rattle.process.specs.Meaning.{Proc, Limits}
use Rattle.process.proofs.Bits.{set_below}
use Rattle.certificate.specs.Rows.{empty_row}
use Rattle.certificate.specs.declared.Row.{Row}
use Rattle.gate.specs.Follow.{Follow, AfterLaws}
use Rattle.search.specs.Engine.{Stage, going, Ended, listing}
use Rattle.search.specs.Rule.{search_for}
use Rattle.search.specs.Theorems.{Ends}
use Rattle.search.proofs.Limits.{stage_cases, going_long}
use Rattle.search.proofs.Keeping.{Inv}
use Rattle.search.proofs.Telling.{way_state, way_fits, Says, listing_says}

module _ (F : Follow) (A : AfterLaws F) (plan permit : Proc) (L : Limits plan) (M : Limits permit) where
  -- as many rows as there are pairs, at most
  abbrev most : ℕ
  most = plan.states * 2 ^ permit.states

  -- a row's pair, as a number
  abbrev code : Row → ℕ
  code r = r.state * 2 ^ permit.states + r.set.bits

  rows_few : (i : ℕ) (rows : List Row) → Inv F plan permit i rows → length rows ≤ most
  rows_few i rows I = rw (← length-map rows code) (length-le_from_distinct_below (map code rows) most (IsDistinct-from_apart eqb (map code rows) apart) below)
    where
      at : ℕ → Row
      at k = get_or rows k empty_row

      small : (k : ℕ) → k < length rows → (at k).set.bits < 2 ^ permit.states
      small k l = set_below (at k).set.bits permit.states (way_fits A M (I.ways k (at k) (l, refl)).1)

      below : (q : ℕ) → list_any (eqb q) (map code rows) ≡ true → q < most
      below q e =
          let n = length-map rows code in
          let k = Any-from_list_any (eqb q) (map code rows) e in
          let l : k.0 < length rows = omega (arith, k.2) in
          let same : q ≡ code (at k.0) = eqb-true q k.1 k.4 ∙ sym k.3 ∙ get_or-map code rows k.0 empty_row k.1 l in
          rw same (digits_lt (way_state L (I.ways k.0 (at k.0) (l, refl)).1) (small k.0 l))

      apart : (j k d : ℕ) → j < k → k < length (map code rows) → eqb (get_or (map code rows) j d) (get_or (map code rows) k d) ≡ false
      apart j k d l m = ne_eqb (get_or (map code rows) j d) (get_or (map code rows) k d) (λ e. absurd (omega (arith, level e)))
        where
          level : get_or (map code rows) j d ≡ get_or (map code rows) k d → j ≡ k
          level e =
              let n = length-map rows code in
              let h : k < length rows = omega arith in
              let g : j < length rows = omega arith in
              let same : code (at j) ≡ code (at k) = sym (get_or-map code rows j empty_row d g) ∙ e ∙ get_or-map code rows k empty_row d h in
              I.apart j k (at j) (at k) (g, refl) (h, refl)
              (sym (high (at j).state permit.states (small j g)) ∙ ap (λ (n : ℕ). n / 2 ^ permit.states) same ∙ high (at k).state permit.states (small k h))
              (sym (low (at j).state permit.states (small j g)) ∙ ap (λ (n : ℕ). n % 2 ^ permit.states) same ∙ low (at k).state permit.states (small k h))

  ends : Ended (listing (search_for F plan permit) (suc most))
  ends = ⊎_elim (λ e. e) still (stage_cases (listing (search_for F plan permit) (suc most)))
    where
      still : (rows : List Row) × (listing (search_for F plan permit) (suc most) ≡ going rows) → Ended (listing (search_for F plan permit) (suc most))
      still r =
          let I = subst (Says F A plan permit L M (suc most)) r.1 (listing_says F A plan permit L M (suc most)) in
          let a = rows_few (suc most) r.0 I in
          let b = going_long (search_for F plan permit) (suc most) r.0 r.1 in
          absurd (omega arith)

pub listing_ends : (F : Follow) → AfterLaws F → (plan permit : Proc) → Limits plan → Limits permit
    → (s : Stage) × Ended s × Ends (search_for F plan permit) s
listing_ends F A plan permit L M =
    (listing (search_for F plan permit) (suc (most F A plan permit L M)), ends F A plan permit L M, (suc (most F A plan permit L M), refl))
