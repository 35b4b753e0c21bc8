-- The search within lists, against the listing worked without a limit.
use Rattle.std.proofs.Common.{◌≡◌, ℕ, zero, suc, ◌+◌, ◌<◌, ◌≤◌, min, ltb, ◌⊎◌, List, [], ◌∷◌, ◌++◌, length, get_or, sym, refl, ap, ◌∙◌, subst, inl, inr, ⊎_elim, le_refl, arith}
use Rattle.std.proofs.lemmas.Bool.{ltb-true, ltb-false, cases_lt}
use Rattle.std.proofs.lemmas.Bool.Decides.{nat_tests}
use Rattle.std.proofs.lemmas.List.{length_push}
use Rattle.process.specs.declared.moves.Move.{Move}
use Rattle.process.proofs.Bits.{pick}
use Rattle.certificate.specs.Rows.{empty_row}
use Rattle.certificate.specs.declared.Row.{Row}
use Rattle.search.specs.Engine.{Ask, idle, lacking, append, Engine, trail, Work, listed, lost, work_moves, work_row, Stage, going, ends_within, ends_beyond, held, Ended, worked, next, listing}
use Rattle.search.specs.Search.{Outcome, inside, beyond, fault, Trial, kept, stopped, full, try_ask, and_then, try_moves, try_row, shown, try_rows, search_by, told}
use Rattle.search.specs.Theorems.{Ends}

-- cases

pub by_ask : (x : Ask) (P : Ask → Type 0) → P idle → P lacking → ((r : Row) → P (append r)) → P x
by_ask idle P a b c = a
by_ask lacking P a b c = b
by_ask (append r) P a b c = c r

abbrev held_by : Work → List Row
held_by (listed rows) = rows
held_by (lost a rows) = rows

pub stage_cases : (s : Stage) → Ended s ⊎ ((rows : List Row) × (s ≡ going rows))
stage_cases (going rows) = inr (rows, refl)
stage_cases (ends_within rows) = inl tt
stage_cases (ends_beyond rows w) = inl tt

held_worked : (i : ℕ) (rows : List Row) (x : Work) → held (worked i rows x) ≡ held_by x
held_worked i rows (listed rows') = refl
held_worked i rows (lost a rows') = refl

-- a going stage at d has d rows at least
abbrev AtLeast : ℕ → Stage → Type 0
AtLeast d (going rows) = d ≤ length rows
AtLeast d (ends_within rows) = Unit {0}
AtLeast d (ends_beyond rows w) = Unit {0}

at_least_worked : (d i : ℕ) (rows : List Row) (x : Work) → d ≤ length (held_by x) → AtLeast d (worked i rows x)
at_least_worked d i rows (listed rows') h = h
at_least_worked d i rows (lost a rows') h = tt

-- how a trial with room for N rows agrees with the work without a limit
abbrev Agree : ℕ → Trial → Work → Type 0
Agree N (kept rows) x = (x ≡ listed rows) × (length rows ≤ N)
Agree N (stopped a) x = (rows : List Row) × (x ≡ lost a rows) × (length rows ≤ N)
Agree N full x = N < length (held_by x)

pick_trial : (N : ℕ) (t : Trial) (x : Work) (f : List Row → Outcome) (g : ℕ → Outcome) (y : Outcome) (Q : Outcome → Type 0) → Agree N t x
    → ((rows : List Row) → x ≡ listed rows → length rows ≤ N → Q (f rows))
    → ((a : ℕ) (rows : List Row) → x ≡ lost a rows → length rows ≤ N → Q (g a))
    → (N < length (held_by x) → Q y)
    → Q (elim t [ kept rows ↦ f rows | stopped a ↦ g a | full ↦ y ])
pick_trial N (kept rows) x f g y Q h a b c = a rows h.0 h.1
pick_trial N (stopped n) x f g y Q h a b c = b n h.0 h.1 h.2
pick_trial N full x f g y Q h a b c = c h

module _ (E : Engine) where
  moves_grow : (i : ℕ) (q : Row) (ms : List Move) (rows : List Row) → length rows ≤ length (held_by (work_moves E i q ms rows))
  moves_grow i q [] rows = le_refl (length rows)
  moves_grow i q (m ∷ ms) rows =
      by_ask (E.asks i q rows m)
      (λ x. length rows ≤ length (held_by (elim x
      [ idle ↦ work_moves E i q ms rows | lacking ↦ lost m.motion rows | append r ↦ work_moves E i q ms (rows ++ r ∷ []) ])))
      (moves_grow i q ms rows)
      (le_refl (length rows))
      (λ r. let h = moves_grow i q ms (rows ++ r ∷ []) in omega (arith, length_push rows r))

  tries_agree : (N i : ℕ) (q : Row) (ms : List Move) (rows : List Row) → length rows ≤ N
      → Agree N (try_moves E N i q ms rows) (work_moves E i q ms rows)
  tries_agree N i q [] rows l = (refl, l)
  tries_agree N i q (m ∷ ms) rows l =
      by_ask (E.asks i q rows m)
      (λ x. Agree N (and_then (try_ask N m.motion rows x) (λ more. try_moves E N i q ms more))
      (elim x
      [ idle ↦ work_moves E i q ms rows | lacking ↦ lost m.motion rows | append r ↦ work_moves E i q ms (rows ++ r ∷ []) ]))
      (tries_agree N i q ms rows l)
      (rows, refl, l)
      (λ r. pick (ltb (length rows) N) (kept (rows ++ r ∷ [])) full
      (λ z. Agree N (and_then z (λ more. try_moves E N i q ms more)) (work_moves E i q ms (rows ++ r ∷ [])))
      (λ e. let k = ltb-true (length rows) N e in tries_agree N i q ms (rows ++ r ∷ []) (omega (arith, length_push rows r)))
      (λ e.
      let k = ltb-false (length rows) N e in
      let h = moves_grow i q ms (rows ++ r ∷ []) in
      omega (arith, length_push rows r)))

-- the answer read off the listing

told_full : (N motions : ℕ) (s : Stage) → N < length (held s) → told N motions s ≡ fault 41
told_full N motions (going rows) l = refl
told_full N motions (ends_within rows) l = grind (arith, nat_tests)
told_full N motions (ends_beyond rows w) l = grind (arith, nat_tests)

told_within : (N motions : ℕ) (rows : List Row) → length rows ≤ N → told N motions (ends_within rows) ≡ inside rows
told_within N motions rows l = grind (arith, nat_tests)

told_shown : (N motions : ℕ) (rows : List Row) (w : List ℕ) → length rows ≤ N → told N motions (ends_beyond rows w) ≡ shown motions w
told_shown N motions rows w l = grind (arith, nat_tests)

-- an end is told in one of four ways
pub told_cases : (N motions : ℕ) (s : Stage) → Ended s → (P : Stage → Outcome → Type 0)
    → (N < length (held s) → P s (fault 41))
    → ((rows : List Row) → length rows ≤ N → P (ends_within rows) (inside rows))
    → ((rows : List Row) (w : List ℕ) → length rows ≤ N → motions < length w → P (ends_beyond rows w) (fault 42))
    → ((rows : List Row) (w : List ℕ) → length rows ≤ N → length w ≤ motions → P (ends_beyond rows w) (beyond w))
    → P s (told N motions s)
told_cases N motions (going rows) h P a b c d = absurd h
told_cases N motions (ends_within rows) h P a b c d =
    pick (ltb N (length rows)) (fault 41) (inside rows) (P (ends_within rows))
    (λ t. a (ltb-true N (length rows) t)) (λ t. b rows (ltb-false N (length rows) t))
told_cases N motions (ends_beyond rows w) h P a b c d =
    pick (ltb N (length rows)) (fault 41) (shown motions w) (P (ends_beyond rows w))
    (λ t. a (ltb-true N (length rows) t))
    (λ t. pick (ltb motions (length w)) (fault 42) (beyond w) (P (ends_beyond rows w))
    (λ u. c rows w (ltb-false N (length rows) t) (ltb-true motions (length w) u))
    (λ u. d rows w (ltb-false N (length rows) t) (ltb-false motions (length w) u)))

module _ (E : Engine) where
  abbrev stage : ℕ → Stage
  stage d = listing E d

  abbrev work : ℕ → List Row → Work
  work i rows = work_row E i (get_or rows i empty_row) rows

  work_grows : (i : ℕ) (rows : List Row) → length rows ≤ length (held_by (work i rows))
  work_grows i rows = moves_grow E i (get_or rows i empty_row) (E.moves (get_or rows i empty_row)) rows

  next_works : (i : ℕ) (rows : List Row) → i < length rows → next E i (going rows) ≡ worked i rows (work i rows)
  next_works i rows l = grind (arith, nat_tests)

  next_ends : (i : ℕ) (rows : List Row) → length rows ≤ i → next E i (going rows) ≡ ends_within rows
  next_ends i rows l = grind (arith, nat_tests)

  next_grows : (i : ℕ) (s : Stage) → length (held s) ≤ length (held (next E i s))
  next_grows i (going rows) = grind (arith, nat_tests, held_worked i rows (work i rows), work_grows i rows)
  next_grows i (ends_within rows) = le_refl (length rows)
  next_grows i (ends_beyond rows w) = le_refl (length rows)

  next_stays : (i : ℕ) (s : Stage) → Ended s → next E i s ≡ s
  next_stays i (going rows) e = absurd e
  next_stays i (ends_within rows) e = refl
  next_stays i (ends_beyond rows w) e = refl

  next_at_least : (i : ℕ) (s : Stage) → AtLeast i s → AtLeast (suc i) (next E i s)
  next_at_least i (going rows) h =
      pick (ltb i (length rows)) (worked i rows (work i rows)) (ends_within rows) (AtLeast (suc i))
      (λ t. at_least_worked (suc i) i rows (work i rows) (let l = ltb-true i (length rows) t in omega (arith, work_grows i rows)))
      (λ t. tt)
  next_at_least i (ends_within rows) h = tt
  next_at_least i (ends_beyond rows w) h = tt

  all_at_least : (d : ℕ) → AtLeast d (stage d)
  all_at_least zero = omega arith
  all_at_least (suc d) = next_at_least d (stage d) (all_at_least d)

  pub going_long : (d : ℕ) (rows : List Row) → stage d ≡ going rows → d ≤ length rows
  going_long d rows e = subst (AtLeast d) e (all_at_least d)

  -- what holds from a stage to itself and from each to the next holds from each to every later one
  onward : (P : ℕ → Type 0) (d : ℕ) → P d → ((e : ℕ) → P e → P (suc e)) → (e : ℕ) → d ≤ e → P e
  onward P d p f zero l = let z : d ≡ 0 = omega arith in subst P z p
  onward P d p f (suc e) l = ⊎_elim (λ o. let z : d ≡ suc e = omega arith in subst P z p) (λ o. f e (onward P d p f e o)) (cases_lt e d)

  grows : (d e : ℕ) → d ≤ e → length (held (stage d)) ≤ length (held (stage e))
  grows d e l =
      onward (λ n. length (held (stage d)) ≤ length (held (stage n))) d (le_refl (length (held (stage d))))
      (λ n h. let b = next_grows n (stage n) in omega arith) e l

  stays : (d e : ℕ) → d ≤ e → Ended (stage d) → stage e ≡ stage d
  stays d e l h =
      onward (λ n. stage n ≡ stage d) d refl (λ n g. ap (λ (s : Stage). next E n s) g ∙ next_stays n (stage d) h) e l

  -- an end with at most N rows has come when N + 1 rows are worked
  lands : (N d : ℕ) (s : Stage) → stage d ≡ s → Ended s → length (held s) ≤ N → stage (suc N) ≡ s
  lands N d s e h l = ⊎_elim later (λ o. stays d (suc N) o (subst Ended (sym e) h) ∙ e) (cases_lt (suc N) d)
    where
      later : suc N < d → stage (suc N) ≡ s
      later o = ⊎_elim (λ g. sym (stays (suc N) d (omega arith) g) ∙ e) still (stage_cases (stage (suc N)))
        where
          still : (rows : List Row) × (stage (suc N) ≡ going rows) → stage (suc N) ≡ s
          still r =
              let a = going_long (suc N) r.0 r.1 in
              let b = grows (suc N) d (omega arith) in
              let c : length (held (stage (suc N))) ≡ length r.0 = ap (λ (x : Stage). length (held x)) r.1 in
              let f : length (held (stage d)) ≡ length (held s) = ap (λ (x : Stage). length (held x)) e in
              absurd (omega arith)

  rows_told : (N motions n d i : ℕ) → n ≡ i + d → n ≡ suc N → (rows : List Row) → stage i ≡ going rows → i ≤ length rows → length rows ≤ N
      → try_rows E N motions d i rows ≡ told N motions (stage n)
  rows_told N motions n zero i e f rows g h l = absurd (omega arith)
  rows_told N motions n (suc d) i e f rows g h l =
      pick (ltb i (length rows)) _ _ (λ z. z ≡ told N motions (stage n))
      (λ t.
      let here : stage (suc i) ≡ worked i rows (work i rows) = ap (λ (s : Stage). next E i s) g ∙ next_works i rows (ltb-true i (length rows) t) in
      pick_trial N (try_row E N i (get_or rows i empty_row) rows) (work i rows)
      (λ rows'. try_rows E N motions d (suc i) rows') (λ a. shown motions (trail i rows i (a ∷ []))) (fault 41)
      (λ z. z ≡ told N motions (stage n))
      (tries_agree E N i (get_or rows i empty_row) (E.moves (get_or rows i empty_row)) rows l)
      (λ rows' x k.
      let m = ltb-true i (length rows) t in
      let o = subst (λ (y : Work). length rows ≤ length (held_by y)) x (work_grows i rows) in
      rows_told N motions n d (suc i) (omega arith) f rows' (here ∙ ap (worked i rows) x) (omega arith) k)
      (λ a rows' x k.
      let there : stage (suc i) ≡ ends_beyond rows' (trail i rows i (a ∷ [])) = here ∙ ap (worked i rows) x in
      sym (ap (told N motions) (stays (suc i) n (omega arith) (subst Ended (sym there) tt) ∙ there)
      ∙ told_shown N motions rows' (trail i rows i (a ∷ [])) k))
      (λ k.
      let o = grows (suc i) n (omega arith) in
      let p : length (held (stage (suc i))) ≡ length (held_by (work i rows)) = ap (λ (s : Stage). length (held s)) here ∙ ap length (held_worked i rows (work i rows)) in
      sym (told_full N motions (stage n) (omega arith))))
      (λ t.
      let there : stage (suc i) ≡ ends_within rows = ap (λ (s : Stage). next E i s) g ∙ next_ends i rows (ltb-false i (length rows) t) in
      sym (ap (told N motions) (stays (suc i) n (omega arith) (subst Ended (sym there) tt) ∙ there) ∙ told_within N motions rows l))

  -- the search with its lists is read off the listing
  search_told : (most motions : ℕ) → search_by E most motions ≡ told (min most 1024) motions (stage (suc (min most 1024)))
  search_told most motions =
      pick (ltb 0 most) _ _ (λ z. z ≡ told (min most 1024) motions (stage (suc (min most 1024))))
      (λ t.
      let l = ltb-true 0 most t in
      rows_told (min most 1024) motions (suc (min most 1024)) (suc (min most 1024)) 0 (omega arith) refl (E.first ∷ []) refl (omega arith) (omega arith))
      (λ t.
      let l = ltb-false 0 most t in
      sym (told_full (min most 1024) motions (stage (suc (min most 1024)))
      (let g = grows 0 (suc (min most 1024)) (omega arith) in omega arith)))

  -- a stage that holds more than N rows: N + 1 rows worked are told as 41
  told_more : (N motions d : ℕ) → N < length (held (stage d)) → told N motions (stage (suc N)) ≡ fault 41
  told_more N motions d h =
      ⊎_elim
      (λ o. ⊎_elim
      (λ g.
      let same : length (held (stage d)) ≡ length (held (stage (suc N))) = ap (λ (s : Stage). length (held s)) (stays (suc N) d (omega arith) g) in
      told_full N motions (stage (suc N)) (omega arith))
      (λ r. ap (told N motions) r.1)
      (stage_cases (stage (suc N))))
      (λ o. let g = grows d (suc N) o in told_full N motions (stage (suc N)) (omega arith))
      (cases_lt (suc N) d)

-- once the listing has ended, that is its one end, and every search is read off it
pub read_off : (E : Engine) (s : Stage) → Ended s → Ends E s
    → ((s' : Stage) → Ended s' → Ends E s' → s' ≡ s) × ((most motions : ℕ) → search_by E most motions ≡ told (min most 1024) motions s)
read_off E s h e = (once, read)
  where
    once : (s' : Stage) → Ended s' → Ends E s' → s' ≡ s
    once s' h' e' =
        ⊎_elim
        (λ l. sym e'.1 ∙ sym (stays E e'.0 e.0 (omega arith) (subst Ended (sym e'.1) h')) ∙ e.1)
        (λ l. sym e'.1 ∙ stays E e.0 e'.0 l (subst Ended (sym e.1) h) ∙ e.1)
        (cases_lt e'.0 e.0)

    read : (most motions : ℕ) → search_by E most motions ≡ told (min most 1024) motions s
    read most motions =
        search_told E most motions
        ∙ ⊎_elim
        (λ l.
        told_more E (min most 1024) motions e.0 (subst (λ (x : Stage). min most 1024 < length (held x)) (sym e.1) l)
        ∙ sym (told_full (min most 1024) motions s l))
        (λ l. ap (told (min most 1024) motions) (lands E (min most 1024) e.0 s e.1 h l))
        (cases_lt (min most 1024) (length (held s)))
