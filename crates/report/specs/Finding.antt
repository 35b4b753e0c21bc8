-- What is found of the text of a plan, by reading it and searching it against a permit.
use Rattle.std.specs.Prelude.{ℕ, List, Ok, Err, Result}
use Rattle.common.specs.declared.fault.Located.{Located}
use Rattle.process.specs.Meaning.{Proc}
use Rattle.certificate.specs.declared.Row.{Row}
use Rattle.formtable.specs.Meaning.{process}
use Rattle.formtable.specs.declared.record.Record.{Record}
use Rattle.lexer.specs.Faults.{text_number}
use Rattle.lexer.specs.declared.fault.TextFault.{TextFault}
use Rattle.reader.specs.Reading.{Outline, read_plan}
use Rattle.gate.specs.Follow.{plain}
use Rattle.report.specs.Sizes.{Sizes}
use Rattle.search.specs.Rule.{searched}
use Rattle.search.specs.Search.{Outcome, inside, beyond, fault}

-- the plan of a name and records is within the permit by these rows, or beyond it by these motions; or the text or the
-- search is refused, by a number and a place
pub data Finding : Type 0 where
  lies_within : List ℕ → List Record → List Row → Finding
  goes_beyond : List ℕ → List Record → List ℕ → Finding
  is_refused : ℕ → ℕ → Finding

-- by what the search comes to
abbrev pub by_search : List ℕ → List Record → Outcome → Finding
by_search name records (inside rows) = lies_within name records rows
by_search name records (beyond motions) = goes_beyond name records motions
by_search name records (fault k) = is_refused k 0

-- by what the text reads as: a plan is searched against the permit, with lists of those sizes
abbrev pub by_text : Proc → Sizes → Result Outline (Located TextFault) → Finding
by_text permit n (Ok x) = by_search x.name x.rows (searched plain (process x.rows) permit n.rows n.motions)
by_text permit n (Err f) = is_refused (text_number f.fault) f.place

-- the finding on a text, with lists of those sizes
abbrev pub found : Proc → List ℕ → Sizes → Finding
found permit s n = by_text permit n (read_plan s n.records)
