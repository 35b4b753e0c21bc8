-- Weak runs and traces.
use Rattle.std.specs.Prelude.{ℕ, ◌≤◌, List, [], ◌∷◌}
use Rattle.process.specs.Meaning.{Proc, Steps}

-- a weak run over the motions w from s to e: nothing; a motion from 1 up, then the rest; a silent step, then the rest
pub data Run (p : Proc) : ℕ → List ℕ → ℕ → Type 0 where
  nothing : {s : ℕ} → Run p s [] s
  motion : {s t e a : ℕ} {w : List ℕ} → 1 ≤ a → Steps p s a t → Run p t w e → Run p s (a ∷ w) e
  silent : {s t e : ℕ} {w : List ℕ} → Steps p s 0 t → Run p t w e → Run p s w e

-- w is a trace of p: state 0 can do it
abbrev pub Trace : Proc → List ℕ → Type 0
Trace p w = (e : ℕ) × Run p 0 w e
