-- The record that a history accounts for.
use Rattle.std.specs.Prelude.{◌≡◌, ℕ, List, ◌∷◌}
use Rattle.process.specs.Sets.{only}
use Rattle.reach.specs.Reach.{after_all}
use Rattle.controller.specs.Histories.{Call, Answer, event, History, calls, phase, released, releases, last_plan, Began, never, under, began}
use Rattle.controller.specs.Rules.{Lawful, All, Bounded}
use Rattle.controller.specs.Record.{Record}

-- the states right after the motions: none before any start, else those of the plan in force at the start
abbrev pub cursor_after : Began → List ℕ → ℕ
cursor_after never w = 0
cursor_after (under p) w = after_all p (only 0) w

-- the history is lawful, and the record is what it says
pub record Accounts (h : History) (c : Record) : Type 0 where
  pub lawful : Lawful h
  pub bounded : All Bounded (calls h)
  pub moves : c.moves ≡ last_plan h
  pub stage : c.run.stage ≡ phase h
  pub cursor : c.run.cursor.bits ≡ cursor_after (began h) (released h)
  pub count : c.run.count ≡ releases h

-- the call and its answer take each history that accounts for the record before to one that accounts for the record after
abbrev pub Accounted : Record → Call → Answer → Record → Type 0
Accounted before k a after = (h : History) → Accounts h before → Accounts (event k a ∷ h) after
