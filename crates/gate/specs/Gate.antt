-- The gate: what a certificate must be.
use Rattle.std.specs.Prelude.{◌≡◌, ℕ, ◌^◌, ◌<◌, ◌≤◌, Bool, true, false, not, ◌&&◌, ◌⊎◌, List, [], ◌∷◌, length, Some, None, Option, ◌==◌, nat_le, nat_lt}
use Rattle.std.specs.List.{list_any, list_all, position}
use Rattle.process.specs.Meaning.{Proc, Steps}
use Rattle.process.specs.Runs.{Run}
use Rattle.process.specs.Sets.{within, In, Within}
use Rattle.process.specs.declared.moves.Move.{Move}
use Rattle.certificate.specs.declared.Row.{Row}
use Rattle.reach.specs.Offers.{offers}
use Rattle.gate.specs.Follow.{Follow}

-- what the gate says: accepted, or refused with the number of the fault and the place of the row at fault
pub data Verdict : Type 0 where
  accepted : Verdict
  refused : ℕ → ℕ → Verdict

-- the place of the first row that fails the test
abbrev pub first_bad : (Row → Bool) → List Row → Option ℕ
first_bad f rows = position (λ r. not (f r)) rows

-- 43: from 1 to 1,024 rows
abbrev pub sized : List Row → Bool
sized rows = nat_le 1 (length rows) && nat_le (length rows) 1024

-- 44: the state is one of the plan, the set is not empty and has only states of the permit
abbrev pub fits : Proc → Proc → Row → Bool
fits plan permit r = nat_lt r.state plan.states && (nat_lt 0 r.set.bits && nat_lt r.set.bits (2 ^ permit.states))

-- 45: a start row has state 0 and a set to begin with
abbrev pub starts : Follow → Proc → Row → Bool
starts F permit r = r.state == 0 && F.begins permit r.set.bits

-- the row has that state, and a set within A
abbrev pub answers : ℕ → ℕ → Row → Bool
answers u A r = r.state == u && within r.set.bits A

-- 46: a move by a motion above 0 has a row with its target and a set within After of T
abbrev pub answered : Follow → Proc → List Row → ℕ → Move → Bool
answered F permit rows T m =
    elim (m.motion == 0) [
      | true ↦ true
      | false ↦ let A = F.after permit T m.motion in list_any (answers m.target A) rows
    ]

-- every move of a state in the silent reach of the row's state is so
abbrev pub covered : Follow → Proc → Proc → List Row → Row → Bool
covered F plan permit rows r = list_all (answered F permit rows r.set.bits) (offers plan r.state)

-- the tests 43, 44 and 45, each over all rows before the next
abbrev pub first_tests : Follow → Proc → Proc → List Row → Verdict
first_tests F plan permit rows =
    elim (sized rows) [
      | false ↦ refused 43 0
      | true ↦ elim (first_bad (fits plan permit) rows) [
        | Some i ↦ refused 44 i
        | None ↦ elim (list_any (starts F permit) rows) [ false ↦ refused 45 0 | true ↦ accepted ]
      ]
    ]

-- the test 46
abbrev pub last_test : Follow → Proc → Proc → List Row → Verdict
last_test F plan permit rows = elim (first_bad (covered F plan permit rows) rows) [ Some i ↦ refused 46 i | None ↦ accepted ]

-- all tests, in order
abbrev pub gate : Follow → Proc → Proc → List Row → Verdict
gate F plan permit rows =
    elim (first_tests F plan permit rows) [
      | refused n i ↦ refused n i
      | accepted ↦ last_test F plan permit rows
    ]

-- the row is listed
abbrev pub Member : Row → List Row → Type 0
Member r [] = ⊥
Member r (q ∷ qs) = (q ≡ r) ⊎ Member r qs

-- the rows justify the plan, whatever their number
pub record Justifies (F : Follow) (plan permit : Proc) (rows : List Row) : Type 0 where
  -- the state of each row is one of the plan
  pub states_exist : (r : Row) → Member r rows → r.state < plan.states
  -- the set of each row has a state, and only states of the permit
  pub some_state : (r : Row) → Member r rows → (t : ℕ) × In r.set.bits t
  pub sets_fit : (r : Row) → Member r rows → (t : ℕ) → In r.set.bits t → t < permit.states
  -- some row has state 0 and a set within the start set
  pub start_row : (r : Row) × Member r rows × (r.state ≡ 0) × Within r.set.bits (F.start permit)
  -- each motion that the state of a row offers leads to the state of a row whose set lies within After
  pub moves_answered :
      (r : Row) → Member r rows → (v a u : ℕ) → Run plan r.state [] v → 1 ≤ a → Steps plan v a u
      → (q : Row) × Member q rows × (q.state ≡ u) × Within q.set.bits (F.after permit r.set.bits a)

-- what the gate accepts, with no word of how it looks
pub record Certifies (F : Follow) (plan permit : Proc) (rows : List Row) : Type 0 where
  pub any_row : 1 ≤ length rows
  pub few_rows : length rows ≤ 1024
  pub justifies : Justifies F plan permit rows
