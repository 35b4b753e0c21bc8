-- The rows of a list worked one after the other, against the definitions.
use Rattle.std.proofs.Common.{◌≡◌, ℕ, suc, ◌+◌, ◌-◌, ◌<◌, ◌≤◌, min, List, [], ◌∷◌, length, get_or, take, Err, sym, ap, ◌∙◌, arith, length-take-le, take-take}
use Rattle.std.proofs.lemmas.Bool.Decides.{nat_tests}
use Rattle.certificate.specs.Rows.{empty_row}
use Rattle.certificate.specs.declared.Row.{Row}
use Rattle.search.specs.Answers.{trial_of, AtRow, end_of}
use Rattle.search.specs.Back.{Earlier, way_back, along}
use Rattle.search.specs.Engine.{Engine, trail}
use Rattle.search.specs.Rule.{unless_listed}
use Rattle.search.specs.Search.{Outcome, inside, fault, Trial, kept, stopped, full, shown, try_ask, try_row, try_rows, search_by}
use Rattle.search.specs.Listed.{listed, room, Grows}
use Rattle.search.specs.declared.listing.Listed.{Listed}
use Rattle.search.specs.declared.listing.Stop.{Stop}
use Rattle.search.specs.declared.listing.Stop.TheVariants as stops
use Rattle.search.proofs.Grown.{grows_on}
use Rattle.search.proofs.Trails.{trail_along, trail_front}

module _ (E : Engine) (most m i : ℕ) (rows : List Row) where
  -- what a trial of row i leads to
  abbrev led_to : Trial → Outcome
  led_to t =
      elim t [
        | kept more ↦ try_rows E most m (suc most - (i + 1)) (i + 1) more
        | stopped a ↦ shown m (trail i rows i (a ∷ []))
        | full ↦ fault 41
      ]

  -- row i is worked
  worked : i < length rows → length rows ≤ most → (t : Trial) → t ≡ try_row E most i (get_or rows i empty_row) rows → led_to t ≡ try_rows E most m (suc most - i) i rows
  worked l k t e =
      let f : suc most - i ≡ suc (suc most - (i + 1)) = omega arith in
      rw f (grind (arith, nat_tests))

  row_on : (more : List Row) → i < length rows → length rows ≤ most → kept more ≡ try_row E most i (get_or rows i empty_row) rows
      → try_rows E most m (suc most - (i + 1)) (i + 1) more ≡ try_rows E most m (suc most - i) i rows
  row_on more l k e = worked l k (kept more) e

  -- the work stops at row i; the rows listed since change nothing of the way to it
  row_stops : (e : Stop) (more : List Row) → AtRow i (Err e) → Earlier more → length rows ≤ length more → take (length rows) more ≡ rows
      → i < length rows → length rows ≤ most → trial_of (Err e) more ≡ try_row E most i (get_or rows i empty_row) rows
      → end_of m (Err e) more ≡ try_rows E most m (suc most - i) i rows
  row_stops (stops.Lacking k a) more at b h s l f e =
      ap (λ (j : ℕ). shown m (along (way_back j more j) (a ∷ []))) at
      ∙ ap (shown m) (sym (trail_along i more i (a ∷ [])) ∙ trail_front i (length rows) more i (a ∷ []) b h l ∙ ap (λ (x : List Row). trail i x i (a ∷ [])) s)
      ∙ worked l f (stopped a) e
  row_stops stops.Full more at b h s l f e = worked l f full e

  -- no row is left
  rows_done : length rows ≤ i → i ≤ most → inside rows ≡ try_rows E most m (suc most - i) i rows
  rows_done l k =
      let f : suc most - i ≡ suc (suc most - (i + 1)) = omega arith in
      rw f (grind (arith, nat_tests))

-- the rows listed before begin those listed then
grows_front : {a b : Listed} → Grows a b → take (length (listed a)) (listed b) ≡ listed a
grows_front {a} {b} G =
    ap (λ (n : ℕ). take n (listed b)) (length-take-le a.count a.rows.now a.fit) ∙ take-take a.count b.count b.rows.now G.more ∙ G.same_rows

-- the search comes to what the rows listed come to from row i on
abbrev pub Leads : Engine → ℕ → Listed → Type 0
Leads E i l = (m : ℕ) → try_rows E (room l) m (suc (room l) - i) i (listed l) ≡ search_by E (length l.rows.now) m

-- the first row of an empty list
none_listed : (a : Listed) → a.count ≡ 0 → listed a ≡ []
none_listed a z = ap (λ (n : ℕ). take n a.rows.now) z

module _ (E : Engine) where
  -- row 0 alone
  pub leads_first : (a b : Listed) → Grows a b → a.count ≡ 0 → (r : Row) → r ≡ E.first → kept (listed b) ≡ try_ask (room a) r.by (listed a) (unless_listed (listed a) r) → Leads E 0 b
  leads_first a b G z r q e m =
      let f = rw (none_listed a z, q) at e in
      let h : suc (room b) - 0 ≡ suc (room b) = omega arith in
      rw h (grind (arith, nat_tests, f, G.same_length))

  module _ (i : ℕ) (a b : Listed) (G : Grows a b) (L : Leads E i a) where
    -- row i is worked
    pub leads_on : i < a.count → kept (listed b) ≡ try_row E (room a) i (get_or (listed a) i empty_row) (listed a) → Leads E (i + 1) b
    leads_on l e m =
        let n = length-take-le a.count a.rows.now a.fit in
        let same : room b ≡ room a = ap (λ (n : ℕ). min n 1024) G.same_length in
        rw (same, G.same_length) (row_on E (room a) m i (listed a) (listed b) (omega arith) (omega (arith, a.few)) e ∙ L m)

    -- the work stops at row i
    pub leads_stop : i < a.count → (e : Stop) → AtRow i (Err e) → trial_of (Err e) (listed b) ≡ try_row E (room a) i (get_or (listed a) i empty_row) (listed a)
        → (m : ℕ) → end_of m (Err e) (listed b) ≡ search_by E (length b.rows.now) m
    leads_stop l e at f m =
        let n = length-take-le a.count a.rows.now a.fit in
        let k = length-take-le b.count b.rows.now b.fit in
        rw G.same_length (row_stops E (room a) m i (listed a) e (listed b) at b.earlier (omega (arith, G.more)) (grows_front G) (omega arith) (omega (arith, a.few)) f ∙ L m)

  -- no row is left
  pub leads_end : (i : ℕ) (a b : Listed) → Grows a b → Leads E i b → b.count ≤ i → i ≤ b.count → (m : ℕ) → inside (listed b) ≡ search_by E (length a.rows.now) m
  leads_end i a b G L l k m =
      let n = length-take-le b.count b.rows.now b.fit in
      rw (← G.same_length) (rows_done E (room b) m i (listed b) (omega arith) (omega (arith, b.few)) ∙ L m)

pub ruleset steps = (grows_on, leads_first, leads_on, leads_stop, leads_end)
