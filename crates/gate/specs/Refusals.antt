-- What a refusal of the gate says, with no word of how it looks.
use Rattle.std.specs.Prelude.{◌≡◌, ℕ, zero, suc, ◌<◌, ◌≤◌, ◌↔◌, List, [], ◌∷◌, length}
use Rattle.process.specs.Meaning.{Proc, Limits, Steps}
use Rattle.process.specs.Runs.{Run}
use Rattle.process.specs.Sets.{In, Within}
use Rattle.certificate.specs.declared.Row.{Row}
use Rattle.gate.specs.Follow.{Follow, AfterLaws}
use Rattle.gate.specs.Gate.{Member, refused, gate}

-- from 1 to 1,024 rows
abbrev pub RightCount : List Row → Type 0
RightCount rows = (1 ≤ length rows) × (length rows ≤ 1024)

-- the state is one of the plan; the set has a state, and only states of the permit
pub record RowFits (plan permit : Proc) (r : Row) : Type 0 where
  pub state_exists : r.state < plan.states
  pub some_state : (t : ℕ) × In r.set.bits t
  pub set_fits : (t : ℕ) → In r.set.bits t → t < permit.states

-- every row fits
abbrev pub AllFit : Proc → Proc → List Row → Type 0
AllFit plan permit rows = (r : Row) → Member r rows → RowFits plan permit r

-- some row has state 0 and a set within the start set
abbrev pub HasStart : Follow → Proc → List Row → Type 0
HasStart F permit rows = (r : Row) × Member r rows × (r.state ≡ 0) × Within r.set.bits (F.start permit)

-- a row has state u, and a set within After of T by motion a
abbrev pub HasAnswer : Follow → Proc → List Row → ℕ → ℕ → ℕ → Type 0
HasAnswer F permit rows T a u = (q : Row) × Member q rows × (q.state ≡ u) × Within q.set.bits (F.after permit T a)

-- each motion that the state of the row offers leads to the state of a row whose set lies within After
abbrev pub RowAnswered : Follow → Proc → Proc → List Row → Row → Type 0
RowAnswered F plan permit rows r =
    (v a u : ℕ) → Run plan r.state [] v → 1 ≤ a → Steps plan v a u → HasAnswer F permit rows r.set.bits a u

-- row i is the first of the rows without the property
abbrev pub FirstWithout : (Row → Type 0) → List Row → ℕ → Type 0
FirstWithout P [] i = ⊥
FirstWithout P (r ∷ rs) zero = P r → ⊥
FirstWithout P (r ∷ rs) (suc i) = P r × FirstWithout P rs i

-- the number and the place of each refusal: a test that fails, after all those before it are passed by every row
pub data Refused (F : Follow) (plan permit : Proc) (rows : List Row) : ℕ → ℕ → Type 0 where
  miscounted : (RightCount rows → ⊥) → Refused F plan permit rows 43 0
  unfit : {i : ℕ} → RightCount rows → FirstWithout (RowFits plan permit) rows i → Refused F plan permit rows 44 i
  startless : RightCount rows → AllFit plan permit rows → (HasStart F permit rows → ⊥) → Refused F plan permit rows 45 0
  unanswered :
      {i : ℕ} → RightCount rows → AllFit plan permit rows → HasStart F permit rows → FirstWithout (RowAnswered F plan permit rows) rows i
      → Refused F plan permit rows 46 i

-- the gate refuses with just that number and place
abbrev pub RefusesExact : Follow → Type 0
RefusesExact F =
    (plan permit : Proc) → Limits plan → Limits permit → (rows : List Row) (n i : ℕ)
    → (gate F plan permit rows ≡ refused n i) ↔ Refused F plan permit rows n i

-- so it does for every way to follow the permit that keeps the laws of After
abbrev pub RefusalsTold : Type 0
RefusalsTold = (F : Follow) → AfterLaws F → RefusesExact F
