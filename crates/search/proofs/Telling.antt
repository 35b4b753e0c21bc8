-- What the ends of the listing say of the plan and the permit: from the laws of After alone.
use Rattle.std.proofs.Common.{◌≡◌, ℕ, zero, suc, ◌+◌, ◌<◌, ◌≤◌, ltb, List, [], ◌∷◌, ◌++◌, length, get_or, sym, refl, ap, ◌∙◌, subst, ⊎_elim, le_refl, arith}
use Rattle.std.proofs.lemmas.List.{length_push}
use Rattle.std.proofs.lemmas.Bool.{ltb-true, ltb-false, cases_lt}
use Rattle.process.specs.Meaning.{Proc, Limits, Steps}
use Rattle.process.specs.Runs.{Run, nothing, silent, motion, Trace}
use Rattle.process.specs.Sets.{In}
use Rattle.process.proofs.Bits.{pick, not_in_empty, some_in, positive}
use Rattle.certificate.specs.Rows.{empty_row}
use Rattle.certificate.specs.declared.Row.{Row}
use Rattle.reach.specs.Offers.{offers}
use Rattle.reach.proofs.Offering.{offers_exact}
use Rattle.reach.proofs.Reaching.{run_append}
use Rattle.gate.specs.Follow.{Follow, AfterLaws}
use Rattle.gate.specs.Gate.{gate, accepted, Justifies}
use Rattle.gate.proofs.Soundness.{gate_exact}
use Rattle.search.specs.Engine.{trail, Work, listed, lost, work_row, Stage, going, ends_within, ends_beyond, worked, next, listing}
use Rattle.search.specs.Rule.{row0, search_for}
use Rattle.search.specs.Theorems.{Shortest, Ends}
use Rattle.search.proofs.Ways.{At, at_member, member_at, Way, root, branch, way_at, way_run, after_push, way_set, run_after, way_trail}
use Rattle.search.proofs.Keeping.{Found, Next, Inv, Post, moves_work, advance}

run_inside : {p : Proc} {s e : ℕ} {w : List ℕ} → Limits p → Run p s w e → s < p.states → e < p.states
run_inside L nothing l = l
run_inside L (silent {s = s} {t = t} h q) l = run_inside L q (L.targets_inside s 0 t h)
run_inside L (motion {s = s} {t = t} {a = a} g h q) l = run_inside L q (L.targets_inside s a t h)

one_way : {F : Follow} {plan permit : Proc} {k : ℕ} {r : Row} {w : List ℕ} → Way F plan permit (row0 (F.start permit) ∷ []) k r w → length w ≡ 0
one_way (root a) = refl
one_way {F} {permit} (branch {k = k} {r = r} p a l b s g h e) = absurd (omega (arith, a.0))

pub way_state : {F : Follow} {plan permit : Proc} {rows : List Row} {k : ℕ} {r : Row} {w : List ℕ} → Limits plan → Way F plan permit rows k r w → r.state < plan.states
way_state L (root a) = L.some_state
way_state L (branch {v = v} {r = r} p a l b s g h e) = L.targets_inside v r.by r.state h

pub way_fits : {F : Follow} {plan permit : Proc} {rows : List Row} {k : ℕ} {r : Row} {w : List ℕ} → AfterLaws F → Limits permit → Way F plan permit rows k r w
    → (t : ℕ) → In r.set.bits t → t < permit.states
way_fits {permit} A M (root a) t i = run_inside M (A.silent_from permit M t i) M.some_state
way_fits {permit} A M (branch {q = q} {r = r} p a l b s g h e) t i =
    let f = A.reached permit M q.set.bits r.by t g (subst (λ (T : ℕ). In T t) e i) in
    run_inside M f.2 (way_fits A M p f.0 f.1)

module _ (F : Follow) (A : AfterLaws F) (plan permit : Proc) (L : Limits plan) (M : Limits permit) where
  -- the first row alone
  begun : Inv F plan permit 0 (row0 (F.start permit) ∷ [])
  begun =
      record {
        first = (omega arith, refl);
        ways = ways';
        alive = alive';
        apart = λ j k q r g h s t. omega (arith, g.0, h.0);
        ordered = λ j k q r v w P Q l. omega (arith, one_way P, one_way Q);
        near = λ k q r v w P Q. omega (arith, one_way P, one_way Q);
        worked = λ j q l h. absurd (omega arith);
      }
    where
      ways' : (k : ℕ) (r : Row) → At (row0 (F.start permit) ∷ []) k r → (w : List ℕ) × Way F plan permit (row0 (F.start permit) ∷ []) k r w
      ways' zero r h = subst (λ (y : Row). (w : List ℕ) × Way F plan permit (row0 (F.start permit) ∷ []) 0 y w) h.1 ([], root (omega arith, refl))
      ways' (suc k) r h = absurd (omega (arith, h.0))

      alive' : (k : ℕ) (r : Row) → At (row0 (F.start permit) ∷ []) k r → 0 < r.set.bits
      alive' zero r h = subst (λ (y : Row). 0 < y.set.bits) h.1 (positive (F.start permit) 0 (A.first_in permit M))
      alive' (suc k) r h = absurd (omega (arith, h.0))

  -- every row is worked: the rows justify the plan
  finished : (i : ℕ) (rows : List Row) → Inv F plan permit i rows → length rows ≤ i → Justifies F plan permit rows
  finished i rows I end =
      record {
        states_exist = λ r m. let k = member_at rows r m in way_state L (I.ways k.0 r k.1).1;
        some_state = λ r m. let k = member_at rows r m in some_in r.set.bits (I.alive k.0 r k.1);
        sets_fit = λ r m. let k = member_at rows r m in way_fits A M (I.ways k.0 r k.1).1;
        start_row = (row0 (F.start permit), at_member rows 0 (row0 (F.start permit)) I.first, refl, λ t i. i);
        moves_answered = λ r m v a u run l h.
            let k = member_at rows r m in
            let f = I.worked k.0 r (omega (arith, k.1.0)) k.1 v a u run l h in
            (f.0.row, at_member rows f.0.place f.0.row f.0.at, f.0.state_is, λ t i. subst (λ (T : ℕ). In T t) f.0.set_is i);
      }

  -- runs of the plan that are no longer than the way to row i are runs of the permit
  short : {s e : ℕ} {x : List ℕ} → (i : ℕ) (rows : List Row) → Inv F plan permit i rows
      → (p : Row) (w : List ℕ) → Way F plan permit rows i p w
      → Run plan s x e → (k : ℕ) (r : Row) (v : List ℕ) → Way F plan permit rows k r v → Run plan r.state [] s → length v + length x ≤ length w
      → (t e' : ℕ) × In r.set.bits t × Run permit t x e'
  short i rows I p w W nothing k r v V before l =
      let t = some_in r.set.bits (I.alive k r (way_at V)) in (t.0, t.0, t.1, nothing)
  short i rows I p w W (silent h q) k r v V before l = short i rows I p w W q k r v V (run_append before (silent h nothing)) l
  short i rows I p w W (motion {s = s} {t = t} {a = a} {w = x} g h q) k r v V before l =
      onward (I.worked k r early (way_at V) s a t before g h) (λ k' r' v' V' b n. short i rows I p w W q k' r' v' V' b n)
    where
      early : k < i
      early = ⊎_elim (λ o. o) (λ o. let n = I.ordered i k p r w v W V o in absurd (omega arith)) (cases_lt k i)

      onward : (f : Found F permit rows r a t) × Next F plan permit rows k f.place
          → ((k' : ℕ) (r' : Row) (v' : List ℕ) → Way F plan permit rows k' r' v' → Run plan r'.state [] t → length v' + length x ≤ length w
          → (y e' : ℕ) × In r'.set.bits y × Run permit y x e')
          → (y e' : ℕ) × In r.set.bits y × Run permit y (a ∷ x) e'
      onward (f, near) ih =
          let V' = I.ways f.place f.row f.at in
          let n = near r f.row v V'.0 V V'.1 in
          let z = ih f.place f.row V'.0 V'.1 (subst (λ (y : ℕ). Run plan y [] t) (sym f.state_is) nothing) (omega arith) in
          let o = A.reached permit M r.set.bits a z.0 g (subst (λ (T : ℕ). In T z.0) f.set_is z.2) in
          (o.0, z.1, o.1, run_append {s = o.0} {v = z.0} o.2 z.3)

  -- a motion lacking at row i: a shortest trace that the permit has not
  lacked : (i : ℕ) (rows : List Row) → Inv F plan permit i rows → (q : Row) → At rows i q
      → (v a u : ℕ) → Run plan q.state [] v → 1 ≤ a → Steps plan v a u → F.after permit q.set.bits a ≡ 0
      → Shortest plan permit (trail i rows i (a ∷ []))
  lacked i rows I q at v a u run loud step gone =
      subst (Shortest plan permit) (sym (way_trail W i (le_refl i) (a ∷ [])))
      (record { of_plan = does; not_permit = fails; least = λ x T n. ⊎_elim (λ l. absurd (n (shorter x l T))) (λ l. l) (cases_lt (length x) (length (w ++ a ∷ []))) })
    where
      w : List ℕ
      w = (I.ways i q at).0

      W : Way F plan permit rows i q w
      W = (I.ways i q at).1

      does : Trace plan (w ++ a ∷ [])
      does = (u, run_append (way_run W) (run_append run (motion loud step nothing)))

      fails : Trace permit (w ++ a ∷ []) → ⊥
      fails T =
          let f = run_after F A M T.1 (F.start permit) 0 (A.first_in permit M) nothing in
          not_in_empty f.0
          (subst (λ (S : ℕ). In S f.0) (after_push F permit (F.start permit) a w ∙ ap (λ (S : ℕ). F.after permit S a) (way_set W) ∙ gone) f.1)

      shorter : (x : List ℕ) → length x < length (w ++ a ∷ []) → Trace plan x → Trace permit x
      shorter x l T =
          let f = short i rows I q w W T.1 0 (row0 (F.start permit)) [] (root I.first) nothing (omega (arith, length_push w a)) in
          (f.1, run_append (A.silent_from permit M f.0 f.2) f.3)

  -- what a stage says
  abbrev pub Says : ℕ → Stage → Type 0
  Says d (going rows) = Inv F plan permit d rows
  Says d (ends_within rows) = Justifies F plan permit rows × ((i : ℕ) × Inv F plan permit i rows)
  Says d (ends_beyond rows w) = Shortest plan permit w

  work_says : (i : ℕ) (rows : List Row) (q : Row) → Inv F plan permit i rows → At rows i q
      → (x : Work) → Post F plan permit i q (offers plan q.state) rows x → Says (suc i) (worked i rows x)
  work_says i rows q I at (listed rows') p =
      advance F plan permit i rows' q p.0 (p.1 i q at)
      (λ v a u run l h. p.2 a u l ((offers_exact plan L q.state a u).1 (v, run, h)))
  work_says i rows q I at (lost a rows') p = lacked i rows I q at p.0 a p.1 p.2 p.3 p.4 p.5

  next_says : (i : ℕ) (s : Stage) → Says i s → Says (suc i) (next (search_for F plan permit) i s)
  next_says i (going rows) I =
      pick (ltb i (length rows)) _ _ (Says (suc i))
      (λ t.
      let q = get_or rows i empty_row in
      let at : At rows i q = (ltb-true i (length rows) t, refl) in
      work_says i rows q I at (work_row (search_for F plan permit) i q rows)
      (moves_work F plan permit i q (offers plan q.state) (λ a u h. (offers_exact plan L q.state a u).0 h) rows I at))
      (λ t. (finished i rows I (ltb-false i (length rows) t), (i, I)))
  next_says i (ends_within rows) J = J
  next_says i (ends_beyond rows w) S = S

  pub listing_says : (d : ℕ) → Says d (listing (search_for F plan permit) d)
  listing_says zero = begun
  listing_says (suc d) = next_says d (listing (search_for F plan permit) d) (listing_says d)

  pub within_says : (rows : List Row) → Ends (search_for F plan permit) (ends_within rows) → Justifies F plan permit rows
  within_says rows e = (subst (Says e.0) e.1 (listing_says e.0)).0

  pub beyond_says : (rows : List Row) (w : List ℕ) → Ends (search_for F plan permit) (ends_beyond rows w) → Shortest plan permit w
  beyond_says rows w e = subst (Says e.0) e.1 (listing_says e.0)

  pub within_passes : (rows : List Row) → Ends (search_for F plan permit) (ends_within rows) → length rows ≤ 1024 → gate F plan permit rows ≡ accepted
  within_passes rows e l =
      let J = within_says rows e in
      let s = J.start_row in
      let k = member_at rows s.0 s.1 in
      (gate_exact F A plan permit L M rows).1
      (record { any_row = omega (arith, k.1.0); few_rows = l; justifies = J })
