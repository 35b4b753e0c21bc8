-- Tests over lists of rows and of moves, and what they decide.
use Rattle.std.proofs.Common.{◌≡◌, ℕ, zero, suc, ◌+◌, Bool, true, false, not, cond, ◌⊎◌, List, [], ◌∷◌, Some, None, Decides, Option, sym, refl, ap, ◌∙◌, subst, inl, inr, add-zero, zero-add, arith}
use Rattle.std.specs.List.{list_any, list_all, position_from}
use Rattle.std.proofs.lemmas.Bool.{both_ways, false≢true}
use Rattle.std.proofs.lemmas.Bool.Decides.{Decides-like, Decides-and, Decides-or}
use Rattle.std.proofs.lemmas.Iterator.Adapters.{position_from-zero}
use Rattle.process.specs.Meaning.{HasMove}
use Rattle.process.specs.declared.moves.Move.{Move}
use Rattle.certificate.specs.declared.Row.{Row}
use Rattle.gate.specs.Gate.{Member, first_bad}
use Rattle.gate.specs.Refusals.{FirstWithout}

-- a property of what the place of a row picks, from the property of each
pub pick_place : {A : Type 0} (q : Option ℕ) (f : ℕ → A) (y : A) (P : A → Type 0) → ((i : ℕ) → q ≡ Some i → P (f i)) → (q ≡ None → P y)
    → P (elim q [ Some i ↦ f i | None ↦ y ])
pick_place None f y P g h = h refl
pick_place (Some i) f y P g h = g i refl

-- some row passes just when there is one with what the test decides
pub any_decides : (f : Row → Bool) (P : Row → Type 0) → ((r : Row) → Decides (f r) (P r)) → (rows : List Row)
    → Decides (list_any f rows) ((r : Row) × Member r rows × P r)
any_decides f P d [] = (λ e. absurd (false≢true e), λ w. absurd w.1)
any_decides f P d (q ∷ qs) = Decides-like _ there back (Decides-or (f q) (list_any f qs) (d q) (any_decides f P d qs))
  where
    there : P q ⊎ ((r : Row) × Member r qs × P r) → (r : Row) × Member r (q ∷ qs) × P r
    there (inl p) = (q, inl refl, p)
    there (inr w) = (w.0, inr w.1, w.2)

    back : (r : Row) × Member r (q ∷ qs) × P r → P q ⊎ ((r : Row) × Member r qs × P r)
    back (r, inl s, p) = inl (subst P (sym s) p)
    back (r, inr m, p) = inr (r, m, p)

-- every move passes just when each that is listed has what the test decides
pub all_decides : (f : Move → Bool) (P : Move → Type 0) → ((m : Move) → Decides (f m) (P m)) → (ms : List Move)
    → Decides (list_all f ms) ((m : Move) → HasMove ms m.motion m.target → P m)
all_decides f P d [] = (λ e m h. absurd h, λ h. refl)
all_decides f P d (n ∷ ms) = Decides-like _ there back (Decides-and (f n) (list_all f ms) (d n) (all_decides f P d ms))
  where
    there : P n × ((m : Move) → HasMove ms m.motion m.target → P m) → (m : Move) → HasMove (n ∷ ms) m.motion m.target → P m
    there h m (inl s) = let path : n ≡ m = λ i. record { motion = s.0 i; target = s.1 i } in subst P path h.0
    there h m (inr l) = h.1 m l

    back : ((m : Move) → HasMove (n ∷ ms) m.motion m.target → P m) → P n × ((m : Move) → HasMove ms m.motion m.target → P m)
    back h = (h n (inl (refl, refl)), λ m l. h m (inr l))

-- the first row without a property

module _ (P : Row → Type 0) where
  -- what a place says of the rows: all have the property, or this one is the first without
  abbrev pub Told : List Row → Option ℕ → Type 0
  Told rows None = (r : Row) → Member r rows → P r
  Told rows (Some i) = FirstWithout P rows i

  lacks : (rows : List Row) (i : ℕ) → FirstWithout P rows i → ((r : Row) → Member r rows → P r) → ⊥
  lacks [] i w h = w
  lacks (r ∷ rs) zero w h = w (h r (inl refl))
  lacks (r ∷ rs) (suc i) w h = lacks rs i w.1 (λ q m. h q (inr m))

  one_first : (rows : List Row) (i k : ℕ) → FirstWithout P rows i → FirstWithout P rows k → i ≡ k
  one_first [] i k v w = absurd v
  one_first (r ∷ rs) zero zero v w = refl
  one_first (r ∷ rs) zero (suc k) v w = absurd (v w.0)
  one_first (r ∷ rs) (suc i) zero v w = absurd (w v.0)
  one_first (r ∷ rs) (suc i) (suc k) v w = ap suc (one_first rs i k v.1 w.1)

  -- only one place says so
  pub told_same : (rows : List Row) (o q : Option ℕ) → Told rows o → Told rows q → o ≡ q
  told_same rows None None h k = refl
  told_same rows None (Some k) h w = absurd (lacks rows k w h)
  told_same rows (Some i) None v h = absurd (lacks rows i v h)
  told_same rows (Some i) (Some k) v w = ap (λ n. Some n) (one_first rows i k v w)

  -- the same, where the place of the first row is j
  abbrev ToldFrom : ℕ → List Row → Option ℕ → Type 0
  ToldFrom j rows None = (r : Row) → Member r rows → P r
  ToldFrom j rows (Some k) = (i : ℕ) × (k ≡ j + i) × FirstWithout P rows i

  told_later : (j : ℕ) (q : Row) (qs : List Row) (o : Option ℕ) → P q → ToldFrom (j + 1) qs o → ToldFrom j (q ∷ qs) o
  told_later j q qs None p h = λ r. elim [ inl s ↦ subst P s p | inr m ↦ h r m ]
  told_later j q qs (Some k) p h = (suc h.0, later h.0 h.1, (p, h.2))
    where
      later : (i : ℕ) → k ≡ j + 1 + i → k ≡ j + suc i
      later i e = omega arith

  told_at : (rows : List Row) (o : Option ℕ) → ToldFrom 0 rows o → Told rows o
  told_at rows None h = h
  told_at rows (Some k) h = subst (FirstWithout P rows) (sym (h.1 ∙ zero-add h.0)) h.2

-- the first row that fails a test is the first without what the test decides

module _ (f : Row → Bool) (P : Row → Type 0) (decides : (r : Row) → Decides (f r) (P r)) where
  told_from : (j : ℕ) (rows : List Row) → ToldFrom P j rows (position_from (λ r. not (f r)) j rows)
  told_from j [] = λ r m. absurd m
  told_from j (q ∷ qs) = at (f q) refl (told_from (j + 1) qs)
    where
      at : (b : Bool) → f q ≡ b → ToldFrom P (j + 1) qs (position_from (λ r. not (f r)) (j + 1) qs)
          → ToldFrom P j (q ∷ qs) (cond (not b) (Some j) (position_from (λ r. not (f r)) (j + 1) qs))
      at true e h = told_later P j q qs (position_from (λ r. not (f r)) (j + 1) qs) ((decides q).0 e) h
      at false e h = (0, sym (add-zero j), λ p. both_ways (f q) e ((decides q).1 p))

  pub told : (rows : List Row) → Told P rows (first_bad f rows)
  told rows =
      subst (Told P rows) (sym (position_from-zero (λ r. not (f r)) rows))
      (told_at P rows (position_from (λ r. not (f r)) 0 rows) (told_from 0 rows))
