-- What is found of a plan on the way to its certificate.
use Rattle.std.specs.Prelude.{◌≡◌, ℕ, List, [], length, take, Ok, Err, Result}
use Rattle.common.specs.declared.fault.Located.{Located}
use Rattle.certificate.specs.declared.Row.{Row}
use Rattle.formtable.specs.Faults.{form_number}
use Rattle.formtable.specs.Table.{contents}
use Rattle.formtable.specs.Vet.{verdict}
use Rattle.formtable.specs.declared.fault.FormFault.{FormFault}
use Rattle.formtable.specs.declared.table.FormTable.{FormTable}
use Rattle.lexer.specs.declared.fault.TextFault.{TextFault}
use Rattle.reader.specs.Reading.{Outline}
use Rattle.search.specs.Answers.{search_number}
use Rattle.search.specs.Search.{Outcome, answer_of, rows_after, motions_after}
use Rattle.search.specs.declared.answer.Answer.{Answer}
use Rattle.search.specs.declared.answer.Answer.TheVariants.{Within, Beyond}
use Rattle.search.specs.declared.answer.SearchFault.{SearchFault}
use Rattle.task.specs.declared.judging.Judged.{Judged}
use Rattle.task.specs.declared.judging.Refusal.{Refusal}
use Rattle.task.specs.declared.judging.Refusal.TheVariants.{Text, Form}

-- a text is loaded by what it reads as: its records pass vetting, and they are counted and held; or it is refused
abbrev pub Loads : Result Outline (Located TextFault) → Result (ℕ × FormTable) Refusal → Type 0
Loads (Ok x) (Ok t) = (verdict x.rows ≡ Ok tt) × (t.0 ≡ length x.rows) × (contents t.1 ≡ x.rows)
Loads (Ok x) (Err e) = (f : FormFault) × (e ≡ Form f) × (verdict x.rows ≡ Err (form_number f))
Loads (Err f) (Ok t) = ⊥
Loads (Err f) (Err e) = e ≡ Text f

-- a search with lists for 16 rows and 8 motions came to an outcome, and left its lists
abbrev pub Searches : Outcome → Result Judged SearchFault → Type 0
Searches o (Ok j) = (answer_of o ≡ Ok j.answer) × (j.rows ≡ rows_after o 16) × (j.motions ≡ motions_after o 8)
Searches o (Err f) = answer_of o ≡ Err (search_number f)

-- the certificate among the rows; none where the plan is beyond the permit
abbrev pub certificate_in : Answer → List Row → List Row
certificate_in (Within n) rows = take n rows
certificate_in (Beyond n) rows = []
