-- A refusal as it is told: its number and its place.
use Rattle.std.specs.Prelude.{ℕ}
use Rattle.common.specs.Faults.{shown_by}
use Rattle.formtable.specs.Faults.{form_number}
use Rattle.lexer.specs.Faults.{text_number}
use Rattle.search.specs.Answers.{search_number}
use Rattle.report.specs.declared.refusal.Refusal.{Refusal}
use Rattle.report.specs.declared.refusal.Refusal.TheVariants.{Text, Form, Search}

abbrev pub told_of : Refusal → ℕ × ℕ
told_of (Text at) = shown_by text_number at
told_of (Form fault) = (form_number fault, 0)
told_of (Search fault) = (search_number fault, 0)
