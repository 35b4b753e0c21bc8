-- Rows by their places, and the way that leads to a row along back.
use Rattle.std.proofs.Common.{◌≡◌, ℕ, zero, suc, ◌+◌, ◌<◌, ◌≤◌, eqb, ◌⊎◌, List, [], ◌∷◌, ◌++◌, length, get_or, sym, refl, ap, ◌∙◌, subst, inl, inr, ⊎_elim, append_assoc, arith}
use Rattle.std.proofs.lemmas.Bool.{eqb-true, cases_lt}
use Rattle.std.proofs.lemmas.List.{length_push, get_or_append_left, get_or_push}
use Rattle.process.specs.Meaning.{Proc, Limits, Steps}
use Rattle.process.specs.Runs.{Run, nothing, silent, motion}
use Rattle.process.specs.Sets.{In}
use Rattle.process.proofs.Bits.{pick}
use Rattle.certificate.specs.Rows.{empty_row}
use Rattle.certificate.specs.declared.Row.{Row}
use Rattle.reach.proofs.Reaching.{run_append}
use Rattle.gate.specs.Follow.{Follow, AfterLaws}
use Rattle.gate.specs.Gate.{Member}
use Rattle.search.specs.Engine.{trail}
use Rattle.search.specs.Rule.{row0}

-- row r stands at place k
abbrev pub At : List Row → ℕ → Row → Type 0
At rows k r = (k < length rows) × (get_or rows k empty_row ≡ r)

pub at_append : (rows : List Row) (x : Row) (k : ℕ) (r : Row) → At rows k r → At (rows ++ x ∷ []) k r
at_append rows x k r h = (omega (arith, h.0, length_push rows x), get_or_append_left rows (x ∷ []) empty_row k h.0 ∙ h.1)

pub at_split : (rows : List Row) (x : Row) (k : ℕ) (r : Row) → At (rows ++ x ∷ []) k r → At rows k r ⊎ ((k ≡ length rows) × (x ≡ r))
at_split rows x k r h = ⊎_elim (λ l. inl (l, sym (get_or_append_left rows (x ∷ []) empty_row k l) ∙ h.1)) last (cases_lt k (length rows))
  where
    last : length rows ≤ k → At rows k r ⊎ ((k ≡ length rows) × (x ≡ r))
    last l =
        let e : length rows ≡ k = omega (arith, h.0, length_push rows x) in
        inr (sym e, sym (get_or_push rows x empty_row k e) ∙ h.1)

pub at_end : (rows : List Row) (x : Row) → At (rows ++ x ∷ []) (length rows) x
at_end rows x = (omega (arith, length_push rows x), get_or_push rows x empty_row (length rows) refl)

pub at_member : (rows : List Row) (k : ℕ) (r : Row) → At rows k r → Member r rows
at_member [] k r h = absurd (omega (arith, h.0))
at_member (y ∷ ys) zero r h = inl h.1
at_member (y ∷ ys) (suc k) r h = inr (at_member ys k r (omega (arith, h.0), h.1))

pub member_at : (rows : List Row) (r : Row) → Member r rows → (k : ℕ) × At rows k r
member_at [] r h = absurd h
member_at (y ∷ ys) r (inl e) = (0, (omega arith, e))
member_at (y ∷ ys) r (inr h) = let q = member_at ys r h in (suc q.0, (omega (arith, q.1.0), q.1.1))

-- the motions w lead to row r at place k along back
pub data Way (F : Follow) (plan permit : Proc) (rows : List Row) : ℕ → Row → List ℕ → Type 0 where
  root : At rows 0 (row0 (F.start permit)) → Way F plan permit rows 0 (row0 (F.start permit)) []
  branch : {j k v : ℕ} {q r : Row} {w : List ℕ} → Way F plan permit rows j q w → At rows k r → j < k → r.back ≡ j
      → Run plan q.state [] v → 1 ≤ r.by → Steps plan v r.by r.state → r.set.bits ≡ F.after permit q.set.bits r.by
      → Way F plan permit rows k r (w ++ r.by ∷ [])

pub way_at : {F : Follow} {plan permit : Proc} {rows : List Row} {k : ℕ} {r : Row} {w : List ℕ} → Way F plan permit rows k r w → At rows k r
way_at (root a) = a
way_at (branch p a l b s g h e) = a

pub way_append : {F : Follow} {plan permit : Proc} {rows : List Row} {k : ℕ} {r : Row} {w : List ℕ} → (x : Row) → Way F plan permit rows k r w → Way F plan permit (rows ++ x ∷ []) k r w
way_append {F} {permit} {rows} x (root a) = root (at_append rows x 0 (row0 (F.start permit)) a)
way_append {rows} x (branch {k = k} {r = r} p a l b s g h e) = branch (way_append x p) (at_append rows x k r a) l b s g h e

pub way_back : {F : Follow} {plan permit : Proc} (rows : List Row) (x : Row) {k : ℕ} {r : Row} {w : List ℕ} → Way F plan permit (rows ++ x ∷ []) k r w → k < length rows → Way F plan permit rows k r w
way_back {F} {permit} rows x (root a) l = ⊎_elim (λ o. root o) (λ e. absurd (omega (arith, e.0))) (at_split rows x 0 (row0 (F.start permit)) a)
way_back rows x (branch {k = k} {r = r} p a j b s g h e) l =
    ⊎_elim (λ o. branch (way_back rows x p (omega arith)) o j b s g h e) (λ z. absurd (omega (arith, z.0))) (at_split rows x k r a)

-- the last row's way goes through its back
pub way_last : {F : Follow} {plan permit : Proc} (rows : List Row) (x : Row) {k : ℕ} {r : Row} {w : List ℕ} → 0 < length rows → Way F plan permit (rows ++ x ∷ []) k r w → k ≡ length rows
    → (q : Row) × (w' : List ℕ) × Way F plan permit rows x.back q w' × (length w ≡ suc (length w'))
way_last rows x n (root a) e = absurd (omega arith)
way_last {F} {plan} {permit} rows x n (branch {j = j} {k = k} {q = q} {r = r} {w = w} p a l b s g h f) e = (
  q,
  w,
  subst (λ (y : ℕ). Way F plan permit rows y q w) (sym (same (at_split rows x k r a))) (way_back rows x p (omega arith)),
  length_push w r.by ∙ more (length w),
)
  where
    same : At rows k r ⊎ ((k ≡ length rows) × (x ≡ r)) → x.back ≡ j
    same (inl o) = absurd (omega (arith, o.0))
    same (inr z) = ap (λ (y : Row). y.back) z.1 ∙ b

    more : (m : ℕ) → m + 1 ≡ suc m
    more m = omega arith

-- what a way means

pub way_run : {F : Follow} {plan permit : Proc} {rows : List Row} {k : ℕ} {r : Row} {w : List ℕ} → Way F plan permit rows k r w → Run plan 0 w r.state
way_run (root a) = nothing
way_run (branch p a l b s g h e) = run_append (way_run p) (run_append s (motion g h nothing))

-- After, motion by motion
abbrev pub after_all : Follow → Proc → ℕ → List ℕ → ℕ
after_all F p T [] = T
after_all F p T (a ∷ w) = after_all F p (F.after p T a) w

pub after_push : (F : Follow) (p : Proc) (T a : ℕ) (w : List ℕ) → after_all F p T (w ++ a ∷ []) ≡ F.after p (after_all F p T w) a
after_push F p T a [] = refl
after_push F p T a (b ∷ w) = after_push F p (F.after p T b) a w

pub way_set : {F : Follow} {plan permit : Proc} {rows : List Row} {k : ℕ} {r : Row} {w : List ℕ} → Way F plan permit rows k r w → after_all F permit (F.start permit) w ≡ r.set.bits
way_set (root a) = refl
way_set {F} {permit} (branch {r = r} {w = w} p a l b s g h e) =
    after_push F permit (F.start permit) r.by w ∙ ap (λ (T : ℕ). F.after permit T r.by) (way_set p) ∙ sym e

-- a run from what T silently reaches ends in what the set after its motions silently reaches
pub run_after : {p : Proc} {t e : ℕ} {w : List ℕ} → (F : Follow) → AfterLaws F → Limits p → Run p t w e → (T u : ℕ) → In T u → Run p u [] t
    → (x : ℕ) × In (after_all F p T w) x × Run p x [] e
run_after F A L nothing T u i before = (u, i, before)
run_after F A L (silent h q) T u i before = run_after F A L q T u i (run_append before (silent h nothing))
run_after {p} F A L (motion {s = s} {t = t} {a = a} l h q) T u i before =
    run_after F A L q (F.after p T a) t (A.targets_in p L T u s a t i before l h) nothing

pub way_trail : {F : Follow} {plan permit : Proc} {rows : List Row} {k : ℕ} {r : Row} {w : List ℕ} → Way F plan permit rows k r w
    → (d : ℕ) → k ≤ d → (acc : List ℕ) → trail d rows k acc ≡ w ++ acc
way_trail (root a) zero l acc = refl
way_trail (root a) (suc d) l acc = refl
way_trail (branch p a j b s g h e) zero l acc = absurd (omega arith)
way_trail {rows} (branch {j = j} {k = k} {r = r} {w = w} p a i b s g h e) (suc d) l acc =
    pick (eqb k 0) acc (trail d rows (get_or rows k empty_row).back ((get_or rows k empty_row).by ∷ acc)) (λ z. z ≡ (w ++ r.by ∷ []) ++ acc)
    (λ z. let y = eqb-true k 0 z in absurd (omega arith))
    (λ z. ap (λ (x : Row). trail d rows x.back (x.by ∷ acc)) (a.1)
    ∙ ap (λ (x : ℕ). trail d rows x (r.by ∷ acc)) b ∙ way_trail p d (omega arith) (r.by ∷ acc) ∙ sym (append_assoc w (r.by ∷ []) acc))
