-- The silent reach and After as relations, apart from how they are computed.
use Rattle.std.specs.Prelude.{ℕ, ◌≤◌, ◌↔◌, List, [], ◌∷◌}
use Rattle.process.specs.Meaning.{Proc, HasMove, Steps}
use Rattle.process.specs.Runs.{Run}
use Rattle.process.specs.Sets.{In, Within}
use Rattle.process.specs.declared.moves.Move.{Move}

-- no silent step leads out of the set C
abbrev pub Closed : Proc → ℕ → Type 0
Closed p C = (u t : ℕ) → In C u → Steps p u 0 t → In C t

-- R is the least set that has T and is closed under silent steps
pub record Least (p : Proc) (T R : ℕ) : Type 0 where
  pub holds : Within T R
  pub closed : Closed p R
  pub least : (C : ℕ) → Within T C → Closed p C → Within R C

-- R has just the states that a state of T silently reaches
abbrev pub ReachExact : Proc → ℕ → ℕ → Type 0
ReachExact p T R = (t : ℕ) → In R t ↔ ((u : ℕ) × In T u × Run p u [] t)

-- R has just the states that motion a leads to from a state that T silently reaches
abbrev pub AfterExact : Proc → ℕ → ℕ → ℕ → Type 0
AfterExact p T a R = (t : ℕ) → In R t ↔ ((u v : ℕ) × In T u × Run p u [] v × Steps p v a t)

-- what following a process rests on: R may have more states than After, as long as a weak run of just that motion leads to them
pub record AfterLaws (p : Proc) (T a R : ℕ) : Type 0 where
  -- each state of R is reached from a state of T
  pub reached : (t : ℕ) → 1 ≤ a → In R t → (u : ℕ) × In T u × Run p u (a ∷ []) t
  -- each target by a of a state that T silently reaches is in R
  pub targets_in : (u v t : ℕ) → In T u → Run p u [] v → Steps p v a t → In R t

-- the moves ms are just those of the states that s silently reaches
abbrev pub OffersExact : Proc → ℕ → List Move → Type 0
OffersExact p s ms = (a u : ℕ) → HasMove ms a u ↔ ((v : ℕ) × Run p s [] v × Steps p v a u)
