-- The traces of a table are the language of its term.
use Rattle.std.proofs.Common.{◌≡◌, ℕ, ◌<◌, ◌↔◌, List, length, refl, subst}
use Rattle.process.specs.Meaning.{Steps}
use Rattle.process.specs.Runs.{Run, nothing, motion, silent, Trace}
use Rattle.formtable.specs.Meaning.{process}
use Rattle.formtable.specs.Places.{term}
use Rattle.formtable.specs.Terms.{Term, Step, Weak, weak_nothing, weak_motion, weak_silent, Language}
use Rattle.formtable.specs.declared.record.Record.{Record}
use Rattle.formtable.specs.Bounds.{moves_within, target_at}
use Rattle.formtable.proofs.Faith.{moves_are_steps, steps_are_moves}
use Rattle.formtable.specs.Vetted.{Formed}

module _ (rs : List Record) (w : Formed rs) where
  pub move_is_step : (i a j : ℕ) → Steps (process rs) i a j → Step (term rs i) a (term rs j)
  move_is_step i a j m = moves_are_steps rs w.laid w.bound i a j (moves_within rs w i a j m) m

  pub step_is_move : (i a : ℕ) (u : Term) → i < length rs → Step (term rs i) a u → (j : ℕ) × Steps (process rs) i a j × (u ≡ term rs j)
  step_is_move = steps_are_moves rs w.laid w.bound

  run_weak : {i j : ℕ} {ms : List ℕ} → Run (process rs) i ms j → Weak (term rs i) ms (term rs j)
  run_weak nothing = weak_nothing
  run_weak {i} (motion {t = t} {a = a} l m r) = weak_motion l (move_is_step i a t m) (run_weak r)
  run_weak {i} (silent {t = t} m r) = weak_silent (move_is_step i 0 t m) (run_weak r)

  -- a weak run of the term of a place is a run of the table
  weak_run : {t u : Term} {ms : List ℕ} → Weak t ms u → (i : ℕ) → i < length rs → t ≡ term rs i → (j : ℕ) × Run (process rs) i ms j
  weak_run weak_nothing i h e = (i, nothing)
  weak_run (weak_motion {u = u} {a = a} l s r) i h e =
      let v = step_is_move i a u h (subst (λ (t : Term). Step t a u) e s) in
      let b = weak_run r v.0 (target_at rs w i a v.0 v.1) v.2 in
      (b.0, motion l v.1 b.1)
  weak_run (weak_silent {u = u} s r) i h e =
      let v = step_is_move i 0 u h (subst (λ (t : Term). Step t 0 u) e s) in
      let b = weak_run r v.0 (target_at rs w i 0 v.0 v.1) v.2 in
      (b.0, silent v.1 b.1)

  pub traces_are_language : (ms : List ℕ) → Trace (process rs) ms ↔ Language (term rs 0) ms
  traces_are_language ms = (λ t. (term rs t.0, run_weak t.1), λ l. weak_run l.1 0 w.some refl)
