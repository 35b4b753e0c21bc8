-- What the code hands from the search to the lines, by the finding that it stands for.
use Rattle.std.specs.Prelude.{◌≡◌, ℕ, List, Ok, Err, Result}
use Rattle.certificate.specs.declared.Row.{Row}
use Rattle.formtable.specs.declared.record.Record.{Record}
use Rattle.report.specs.Lines.{text_of}
use Rattle.report.specs.Finding.{Finding, is_refused}
use Rattle.report.specs.Exactly.{bytes_of, records_after, rows_after, motions_after}
use Rattle.report.specs.Refusals.{told_of}
use Rattle.report.specs.Sizes.{Sizes}
use Rattle.report.specs.declared.lines.Found.{Found}
use Rattle.report.specs.declared.refusal.Refusal.{Refusal}

-- its bytes are the finding's, and the caller's lists, of those sizes, are as the finding leaves them
pub record Keeps (f : Finding) (n : Sizes) (bytes : List ℕ) (records : List Record) (rows : List Row) (motions : List ℕ) : Type 0 where
  pub bytes_are : bytes ≡ bytes_of f
  pub records_are : records ≡ records_after f n.records
  pub rows_are : rows ≡ rows_after f n.rows
  pub motions_are : motions ≡ motions_after f n.motions

-- it stands for the finding; the lists of a refusal are yet to be emptied
abbrev pub StandsFor : Finding → Sizes → Result Found Refusal → List Record → List Row → List ℕ → Type 0
StandsFor f n (Ok plan) records rows motions = Keeps f n (text_of (Ok plan) motions) records rows motions
StandsFor f n (Err refusal) records rows motions = f ≡ is_refused (told_of refusal).0 (told_of refusal).1
