-- What the listing keeps while it is worked: from the laws of After alone.
use Rattle.std.proofs.Common.{◌≡◌, ℕ, zero, suc, ◌<◌, ◌≤◌, Bool, true, false, cond, eqb, List, [], ◌∷◌, ◌++◌, length, get_or, Some, None, Option, sym, refl, ap, ◌∙◌, subst, inl, inr, ⊎_elim, le_refl, arith}
use native.Mathlib.Nat.{le_step}
use Rattle.std.specs.Option.{option_map}
use Rattle.std.proofs.lemmas.Bool.{eqb-true, eqb-false, cases_lt, and_parts, and_from, eq-eqb}
use Rattle.common.specs.First.{first}
use Rattle.process.specs.Meaning.{Proc, HasMove, Steps}
use Rattle.process.specs.Runs.{Run}
use Rattle.process.specs.declared.moves.Move.{Move}
use Rattle.process.proofs.Bits.{pick}
use Rattle.certificate.specs.Rows.{empty_row}
use Rattle.certificate.specs.declared.Row.{Row}
use Rattle.gate.specs.Follow.{Follow}
use Rattle.gate.proofs.Scans.{pick_place}
use Rattle.search.specs.Engine.{Ask, idle, lacking, append, Work, listed, lost, work_moves}
use Rattle.search.specs.Rule.{row0, row_from, same, unless_listed, asks, leads_to, search_for}
use Rattle.search.proofs.Limits.{by_ask}
use Rattle.search.proofs.Ways.{At, at_append, at_split, at_end, Way, branch, way_at, way_append, way_back, way_last}

-- the first row that passes a test stands where it is found, and it passes
first_at : (f : Row → Bool) (rows : List Row) (k : ℕ) → first f rows ≡ Some k → (k < length rows) × (f (get_or rows k empty_row) ≡ true)
first_at f [] k e = cc
first_at f (q ∷ qs) k e = found (f q) (first f qs) refl (first_at f qs) e
  where
    found : (b : Bool) (o : Option ℕ) → f q ≡ b → ((j : ℕ) → o ≡ Some j → (j < length qs) × (f (get_or qs j empty_row) ≡ true))
        → cond b (Some 0) (option_map suc o) ≡ Some k → (k < suc (length qs)) × (f (get_or (q ∷ qs) k empty_row) ≡ true)
    found true o t h e = let s : 0 ≡ k = cc in subst (λ (i : ℕ). (i < suc (length qs)) × (f (get_or (q ∷ qs) i empty_row) ≡ true)) s (omega arith, t)
    found false None t h e = cc
    found false (Some j) t h e =
        let s : suc j ≡ k = cc in
        let g = h j refl in
        subst (λ (i : ℕ). (i < suc (length qs)) × (f (get_or (q ∷ qs) i empty_row) ≡ true)) s (omega (arith, g.0), g.1)

-- a row that passes is found
not_first : (f : Row → Bool) (rows : List Row) (k : ℕ) → k < length rows → f (get_or rows k empty_row) ≡ true → first f rows ≡ None → ⊥
not_first f [] k l t e = absurd (omega arith)
not_first f (q ∷ qs) zero l t e = missed (f q) (first f qs) t e
  where
    missed : (b : Bool) (o : Option ℕ) → b ≡ true → cond b (Some 0) (option_map suc o) ≡ None → ⊥
    missed true o t e = cc
    missed false o t e = cc
not_first f (q ∷ qs) (suc k) l t e = missed (f q) (first f qs) (not_first f qs k (omega arith) t) e
  where
    missed : (b : Bool) (o : Option ℕ) → (o ≡ None → ⊥) → cond b (Some 0) (option_map suc o) ≡ None → ⊥
    missed true o h e = cc
    missed false None h e = h refl
    missed false (Some j) h e = cc

-- a way to the row at k is at most one motion longer than one to the row at j
abbrev pub Next : Follow → Proc → Proc → List Row → ℕ → ℕ → Type 0
Next F plan permit rows j k = (q r : Row) (v w : List ℕ) → Way F plan permit rows j q v → Way F plan permit rows k r w → length w ≤ suc (length v)

-- a row answers motion a to u from row q
pub record Found (F : Follow) (permit : Proc) (rows : List Row) (q : Row) (a u : ℕ) : Type 0 where
  pub place : ℕ
  pub row : Row
  pub at : At rows place row
  pub state_is : row.state ≡ u
  pub set_is : row.set.bits ≡ F.after permit q.set.bits a

-- each visible move from row q, at place j, is answered by a row at most one motion further
abbrev pub Covers : Follow → Proc → Proc → List Row → ℕ → Row → Type 0
Covers F plan permit rows j q =
    (v a u : ℕ) → Run plan q.state [] v → 1 ≤ a → Steps plan v a u → (f : Found F permit rows q a u) × Next F plan permit rows j f.place

-- rows stay where they are
abbrev pub Kept : List Row → List Row → Type 0
Kept rows rows' = (k : ℕ) (r : Row) → At rows k r → At rows' k r

abbrev found_kept : {F : Follow} {permit : Proc} {rows rows' : List Row} {q : Row} {a u : ℕ} → Kept rows rows' → Found F permit rows q a u → Found F permit rows' q a u
found_kept f p = record { place = p.place; row = p.row; at = f p.place p.row p.at; state_is = p.state_is; set_is = p.set_is }

-- what stands when row i is being worked
pub record Inv (F : Follow) (plan permit : Proc) (i : ℕ) (rows : List Row) : Type 0 where
  pub first : At rows 0 (row0 (F.start permit))
  pub ways : (k : ℕ) (r : Row) → At rows k r → (w : List ℕ) × Way F plan permit rows k r w
  pub alive : (k : ℕ) (r : Row) → At rows k r → 0 < r.set.bits
  pub apart : (j k : ℕ) (q r : Row) → At rows j q → At rows k r → q.state ≡ r.state → q.set.bits ≡ r.set.bits → j ≡ k
  pub ordered : (j k : ℕ) (q r : Row) (v w : List ℕ) → Way F plan permit rows j q v → Way F plan permit rows k r w → j ≤ k → length v ≤ length w
  pub near : (k : ℕ) → Next F plan permit rows i k
  pub worked : (j : ℕ) (q : Row) → j < i → At rows j q → Covers F plan permit rows j q

-- the row that motion a to u makes from row q at place i
abbrev made : Follow → Proc → ℕ → Row → ℕ → ℕ → Row
made F permit i q a u = record { state = u; set = record { bits = F.after permit q.set.bits a }; back = i; by = a }

extend : (F : Follow) (plan permit : Proc) (i : ℕ) (rows : List Row) (q : Row) → Inv F plan permit i rows → At rows i q
    → (v a u : ℕ) → Run plan q.state [] v → 1 ≤ a → Steps plan v a u → 0 < F.after permit q.set.bits a → first (same u (F.after permit q.set.bits a)) rows ≡ None
    → Inv F plan permit i (rows ++ made F permit i q a u ∷ [])
extend F plan permit i rows q I at v a u run loud step pos new =
    record {
      first = at_append rows x 0 (row0 (F.start permit)) I.first;
      ways = λ k r h. ⊎_elim (λ o. let p = I.ways k r o in (p.0, way_append x p.1)) (λ e. last k r e.0 e.1) (at_split rows x k r h);
      alive = λ k r h. ⊎_elim (λ o. I.alive k r o) (λ e. subst (λ (y : Row). 0 < y.set.bits) e.1 pos) (at_split rows x k r h);
      apart = λ j k q r g h s t.
          ⊎_elim
          (λ o. ⊎_elim
          (λ o'. I.apart j k q r o o' s t)
          (λ e. absurd (not_listed j q o (s ∙ sym (ap (λ (y : Row). y.state) e.1)) (t ∙ sym (ap (λ (y : Row). y.set.bits) e.1))))
          (at_split rows x k r h))
          (λ e. ⊎_elim
          (λ o'. absurd (not_listed k r o' (sym s ∙ sym (ap (λ (y : Row). y.state) e.1)) (sym t ∙ sym (ap (λ (y : Row). y.set.bits) e.1))))
          (λ e'. e.0 ∙ sym e'.0)
          (at_split rows x k r h))
          (at_split rows x j q g);
      ordered = ordered';
      near = near';
      worked = worked';
    }
  where
    x : Row
    x = made F permit i q a u

    not_listed : (k : ℕ) (r : Row) → At rows k r → r.state ≡ u → r.set.bits ≡ F.after permit q.set.bits a → ⊥
    not_listed k r h s t =
        not_first (same u (F.after permit q.set.bits a)) rows k h.0
        (rw h.1 (and_from (eqb r.state u) (eqb r.set.bits (F.after permit q.set.bits a)) (eq-eqb r.state u s) (eq-eqb r.set.bits (F.after permit q.set.bits a) t)))
        new

    i_in : i < length rows
    i_in = at.0

    last : (k : ℕ) (r : Row) → k ≡ length rows → x ≡ r → (w : List ℕ) × Way F plan permit (rows ++ x ∷ []) k r w
    last k r e f =
        let p = I.ways i q at in
        let z : Way F plan permit (rows ++ x ∷ []) (length rows) x (p.0 ++ a ∷ []) = branch (way_append x p.1) (at_end rows x) i_in refl run loud step refl in
        subst (λ (n : ℕ). (w : List ℕ) × Way F plan permit (rows ++ x ∷ []) n r w) (sym e)
        (subst (λ (y : Row). (w : List ℕ) × Way F plan permit (rows ++ x ∷ []) (length rows) y w) f (p.0 ++ a ∷ [], z))

    ordered' : (j k : ℕ) (q r : Row) (v w : List ℕ) → Way F plan permit (rows ++ x ∷ []) j q v → Way F plan permit (rows ++ x ∷ []) k r w → j ≤ k → length v ≤ length w
    ordered' j k q r v w P Q l =
        ⊎_elim
        (λ o. I.ordered j k q r v w (way_back rows x P (omega (arith, o.0))) (way_back rows x Q o.0) l)
        (λ e.
        let z = way_last rows x (omega (arith, i_in)) Q e.0 in
        ⊎_elim
        (λ o. let n = I.near j z.0 q z.1 v z.2 (way_back rows x P o.0) in omega (arith, z.3))
        (λ f.
        let y = way_last rows x (omega (arith, i_in)) P f.0 in
        let n = I.ordered i i y.0 z.0 y.1 z.1 y.2 z.2 (le_refl i) in
        omega (arith, z.3, y.3))
        (at_split rows x j q (way_at P)))
        (at_split rows x k r (way_at Q))

    near' : (k : ℕ) → Next F plan permit (rows ++ x ∷ []) i k
    near' k q r v w P Q =
        ⊎_elim
        (λ o. I.near k q r v w (way_back rows x P i_in) (way_back rows x Q o.0))
        (λ e.
        let z = way_last rows x (omega (arith, i_in)) Q e.0 in
        let n = I.ordered i i z.0 q z.1 v z.2 (way_back rows x P i_in) (le_refl i) in
        omega (arith, z.3))
        (at_split rows x k r (way_at Q))

    worked' : (j : ℕ) (q : Row) → j < i → At (rows ++ x ∷ []) j q → Covers F plan permit (rows ++ x ∷ []) j q
    worked' j q l h v a u run loud step =
        ⊎_elim
        (λ o.
        let f = I.worked j q l o v a u run loud step in (
          found_kept (at_append rows x) f.0,
          λ q' r v' w P Q. f.1 q' r v' w (way_back rows x P o.0) (way_back rows x Q f.0.at.0),
        ))
        (λ e. absurd (omega (arith, i_in, e.0)))
        (at_split rows x j q h)

-- what a move asks for, in terms of the rows
abbrev Asked : Follow → Proc → ℕ → Row → List Row → Move → Ask → Type 0
Asked F permit i q rows m idle = 1 ≤ m.motion → Found F permit rows q m.motion m.target
Asked F permit i q rows m lacking = (1 ≤ m.motion) × (F.after permit q.set.bits m.motion ≡ 0)
Asked F permit i q rows m (append r) =
    (1 ≤ m.motion) × (r ≡ made F permit i q m.motion m.target) × (0 < F.after permit q.set.bits m.motion)
    × (first (same m.target (F.after permit q.set.bits m.motion)) rows ≡ None)

ask_means : (F : Follow) (permit : Proc) (i : ℕ) (q : Row) (rows : List Row) (m : Move) → Asked F permit i q rows m (asks (leads_to F permit) i q rows m)
ask_means F permit i q rows m =
    pick (eqb m.motion 0) _ _ (Asked F permit i q rows m)
    (λ e l. let z = eqb-true m.motion 0 e in absurd (omega arith))
    (λ e. pick (eqb S 0) None (Some S) (λ o. Asked F permit i q rows m (elim o [ None ↦ lacking | Some A ↦ unless_listed rows (row_from i m A) ]))
    (λ z. (omega (arith, eqb-false m.motion 0 e), eqb-true S 0 z))
    (λ z. pick_place (first (same m.target S) rows) (λ k. idle) (append (row_from i m S)) (Asked F permit i q rows m)
    (λ k f l. there k f)
    (λ f. (omega (arith, eqb-false m.motion 0 e), refl, omega (arith, eqb-false S 0 z), f))))
  where
    S : ℕ
    S = F.after permit q.set.bits m.motion

    there : (k : ℕ) → first (same m.target S) rows ≡ Some k → Found F permit rows q m.motion m.target
    there k f =
        let r = get_or rows k empty_row in
        let h = first_at (same m.target S) rows k f in
        let b = and_parts (eqb r.state m.target) (eqb r.set.bits S) h.1 in
        record { place = k; row = r; at = (h.0, refl); state_is = eqb-true r.state m.target b.0; set_is = eqb-true r.set.bits S b.1 }

-- each of the moves is answered
abbrev Done : Follow → Proc → Row → List Move → List Row → Type 0
Done F permit q ms rows = (a u : ℕ) → 1 ≤ a → HasMove ms a u → Found F permit rows q a u

-- what the work on the moves ms of row i, q, leaves
abbrev pub Post : Follow → Proc → Proc → ℕ → Row → List Move → List Row → Work → Type 0
Post F plan permit i q ms rows (listed rows') = Inv F plan permit i rows' × Kept rows rows' × Done F permit q ms rows'
Post F plan permit i q ms rows (lost a rows') = (v u : ℕ) × Run plan q.state [] v × (1 ≤ a) × Steps plan v a u × (F.after permit q.set.bits a ≡ 0)

-- one move more in front
post_more : (F : Follow) (plan permit : Proc) (i : ℕ) (q : Row) (m : Move) (ms : List Move) (rows rows' : List Row) (x : Work)
    → Kept rows rows' → (1 ≤ m.motion → Found F permit rows' q m.motion m.target)
    → Post F plan permit i q ms rows' x → Post F plan permit i q (m ∷ ms) rows x
post_more F plan permit i q m ms rows rows' (listed rows'') f g p =
    (p.0, λ k r h. p.1 k r (f k r h), λ a u l h. ⊎_elim (here a u l) (λ o. p.2 a u l o) h)
  where
    here : (a u : ℕ) → 1 ≤ a → (m.motion ≡ a) × (m.target ≡ u) → Found F permit rows'' q a u
    here a u l e =
        subst (λ (y : ℕ). Found F permit rows'' q a y) e.1
        (subst (λ (b : ℕ). Found F permit rows'' q b m.target) e.0
        (found_kept p.1 (g (subst (λ (b : ℕ). 1 ≤ b) (sym e.0) l))))
post_more F plan permit i q m ms rows rows' (lost a rows'') f g p = p

pub moves_work : (F : Follow) (plan permit : Proc) (i : ℕ) (q : Row)
    → (ms : List Move) → ((a u : ℕ) → HasMove ms a u → (v : ℕ) × Run plan q.state [] v × Steps plan v a u)
    → (rows : List Row) → Inv F plan permit i rows → At rows i q → Post F plan permit i q ms rows (work_moves (search_for F plan permit) i q ms rows)
moves_work F plan permit i q [] sub rows I at = (I, λ k r h. h, λ a u l h. absurd h)
moves_work F plan permit i q (m ∷ ms) sub rows I at =
    by_ask (asks (leads_to F permit) i q rows m)
    (λ x. Asked F permit i q rows m x → Post F plan permit i q (m ∷ ms) rows (elim x
    [ idle ↦ work_moves (search_for F plan permit) i q ms rows | lacking ↦ lost m.motion rows | append r ↦ work_moves (search_for F plan permit) i q ms (rows ++ r ∷ []) ]))
    (λ p. post_more F plan permit i q m ms rows rows (work_moves (search_for F plan permit) i q ms rows) (λ k r h. h) p
    (moves_work F plan permit i q ms (λ a u h. sub a u (inr h)) rows I at))
    (λ p. let s = sub m.motion m.target (inl (refl, refl)) in (s.0, m.target, s.1, p.0, s.2, p.1))
    (λ r p.
    let s = sub m.motion m.target (inl (refl, refl)) in
    let J : Inv F plan permit i (rows ++ r ∷ []) =
    subst (λ (x : Row). Inv F plan permit i (rows ++ x ∷ [])) (sym p.1)
    (extend F plan permit i rows q I at s.0 m.motion m.target s.1 p.0 s.2 p.2 p.3) in
    post_more F plan permit i q m ms rows (rows ++ r ∷ []) (work_moves (search_for F plan permit) i q ms (rows ++ r ∷ [])) (λ k x h. at_append rows r k x h)
    (λ l. record { place = length rows; row = r; at = at_end rows r; state_is = ap (λ (x : Row). x.state) p.1; set_is = ap (λ (x : Row). x.set.bits) p.1 })
    (moves_work F plan permit i q ms (λ a u h. sub a u (inr h)) (rows ++ r ∷ []) J (at_append rows r i q at)))
    (ask_means F permit i q rows m)

-- row i is worked: on to the next
pub advance : (F : Follow) (plan permit : Proc) (i : ℕ) (rows : List Row) (q : Row) → Inv F plan permit i rows → At rows i q
    → ((v a u : ℕ) → Run plan q.state [] v → 1 ≤ a → Steps plan v a u → Found F permit rows q a u) → Inv F plan permit (suc i) rows
advance F plan permit i rows q I at done =
    record { first = I.first; ways = I.ways; alive = I.alive; apart = I.apart; ordered = I.ordered; near = near'; worked = worked' }
  where
    near' : (k : ℕ) → Next F plan permit rows (suc i) k
    near' k q' r v w P Q =
        let p = I.ways i q at in
        let a = I.near k q r p.0 w p.1 Q in
        let b = I.ordered i (suc i) q q' p.0 v p.1 P (le_step (le_refl i)) in
        omega arith

    worked' : (j : ℕ) (q' : Row) → j < suc i → At rows j q' → Covers F plan permit rows j q'
    worked' j q' l h =
        ⊎_elim (λ l'. I.worked j q' l' h)
        (λ l'. subst (λ (y : ℕ). At rows y q' → Covers F plan permit rows y q') (level l') now h)
        (cases_lt j i)
      where
        level : i ≤ j → i ≡ j
        level l' = omega arith

        now : At rows i q' → Covers F plan permit rows i q'
        now h' = subst (λ (y : Row). Covers F plan permit rows i y) (sym at.1 ∙ h'.1)
            (λ v a u run loud step. let f = done v a u run loud step in (f, I.near f.place))
