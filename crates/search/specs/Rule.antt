-- The rows that the search lists, by a rule that leads from a row's set over a move to the next set, or to none.
use Rattle.std.specs.Prelude.{ℕ, Bool, true, false, ◌&&◌, List, Some, None, Option, ◌==◌}
use Rattle.common.specs.First.{first}
use Rattle.process.specs.Meaning.{Proc}
use Rattle.process.specs.declared.moves.Move.{Move}
use Rattle.certificate.specs.declared.Row.{Row}
use Rattle.reach.specs.Offers.{offers}
use Rattle.gate.specs.Follow.{Follow}
use Rattle.search.specs.Engine.{Ask, idle, lacking, append, Engine}
use Rattle.search.specs.Search.{Outcome, search_by}

-- a set that has some state, or none
abbrev pub some_of : ℕ → Option ℕ
some_of A = elim (A == 0) [ true ↦ None | false ↦ Some A ]

-- row 0: state 0 and the set to begin with
abbrev pub row0 : ℕ → Row
row0 S = record { state = 0; set = record { bits = S }; back = 0; by = 0 }

-- the row that a move of row i leads to, with the set A
abbrev pub row_from : ℕ → Move → ℕ → Row
row_from i m A = record { state = m.target; set = record { bits = A }; back = i; by = m.motion }

-- has the row that state and that set
abbrev pub same : ℕ → ℕ → Row → Bool
same u A r = r.state == u && r.set.bits == A

-- a row, unless one with its state and set is listed
abbrev pub unless_listed : List Row → Row → Ask
unless_listed rows r = elim (first (same r.state r.set.bits) rows) [ Some k ↦ idle | None ↦ append r ]

-- a silent move asks for nothing; where the rule leads to no set, the search ends beyond; otherwise a row is listed once
abbrev pub asks : (ℕ → Move → Option ℕ) → ℕ → Row → List Row → Move → Ask
asks leads i q rows m =
    elim (m.motion == 0) [
      | true ↦ idle
      | false ↦ elim (leads q.set.bits m) [
        | None ↦ lacking
        | Some A ↦ unless_listed rows (row_from i m A)
      ]
    ]

-- the search that a rule makes of a plan
abbrev pub ruled : Proc → ℕ → (ℕ → Move → Option ℕ) → Engine
ruled plan begins leads = record { first = row0 begins; moves = λ q. offers plan q.state; asks = asks leads }

-- following a permit: from a set over a move to After its motion, where that has a state
abbrev pub leads_to : Follow → Proc → ℕ → Move → Option ℕ
leads_to F permit T m = some_of (F.after permit T m.motion)

-- the search for a trace of the plan that the permit lacks
abbrev pub search_for : Follow → Proc → Proc → Engine
search_for F plan permit = ruled plan (F.start permit) (leads_to F permit)

-- with lists for so many rows and motions
abbrev pub searched : Follow → Proc → Proc → ℕ → ℕ → Outcome
searched F plan permit rows motions = search_by (search_for F plan permit) rows motions
