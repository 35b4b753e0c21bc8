-- What a report writes and leaves, by its finding.
use Rattle.std.specs.Prelude.{◌≡◌, ℕ, ◌-◌, cond, List, ◌++◌, length, replicate, Ok, Err, Result, nat_le}
use Rattle.certificate.specs.Rows.{empty_row}
use Rattle.certificate.specs.declared.Row.{Row}
use Rattle.formtable.specs.declared.record.Record.{Record}
use Rattle.reader.specs.Reading.{empty_record}
use Rattle.report.specs.Lines.{within_text, beyond_text, refused_text}
use Rattle.report.specs.Sizes.{Sizes}
use Rattle.report.specs.Finding.{Finding, lies_within, goes_beyond, is_refused}

-- the bytes that tell a finding
abbrev pub bytes_of : Finding → List ℕ
bytes_of (lies_within name records rows) = within_text name (length rows)
bytes_of (goes_beyond name records motions) = beyond_text name motions
bytes_of (is_refused number place) = refused_text number place

-- the caller's records then, n of them: the plan's, and empty ones
abbrev pub records_after : Finding → ℕ → List Record
records_after (lies_within name records rows) n = records ++ replicate (n - length records) empty_record
records_after (goes_beyond name records motions) n = records ++ replicate (n - length records) empty_record
records_after (is_refused number place) n = replicate n empty_record

-- the caller's rows then, n of them: the certificate, and empty ones
abbrev pub rows_after : Finding → ℕ → List Row
rows_after (lies_within name records rows) n = rows ++ replicate (n - length rows) empty_row
rows_after (goes_beyond name records motions) n = replicate n empty_row
rows_after (is_refused number place) n = replicate n empty_row

-- the caller's motions then, n of them: the motions shown, and zeros
abbrev pub motions_after : Finding → ℕ → List ℕ
motions_after (lies_within name records rows) n = replicate n 0
motions_after (goes_beyond name records motions) n = motions ++ replicate (n - length motions) 0
motions_after (is_refused number place) n = replicate n 0

-- one value where the bytes of the finding have room in an output of that length, another where they do not
abbrev pub by_room : {X : Type 0} → Finding → ℕ → X → X → X
by_room f room x y = cond (nat_le (length (bytes_of f)) room) x y

-- the finding that stands then: without room for its bytes the report is refused by 52
abbrev pub standing : Finding → ℕ → Finding
standing f room = by_room f room f (is_refused 52 0)

-- the answer: the count of the bytes, or 52
abbrev pub answer_of : Finding → ℕ → Result ℕ ℕ
answer_of f room = by_room f room (Ok (length (bytes_of f))) (Err 52)

-- the output: the bytes, and zeros; nothing but zeros without room for them
abbrev pub out_after : Finding → ℕ → List ℕ
out_after f room = by_room f room (bytes_of f ++ replicate (room - length (bytes_of f)) 0) (replicate room 0)

-- EXACTLY: the answer, the output of so much room and the caller's lists, of those sizes, are those of the finding
pub record Exactly (f : Finding) (n : Sizes) (room : ℕ) (answer : Result ℕ ℕ) (out : List ℕ) (records : List Record) (rows : List Row) (motions : List ℕ) : Type 0 where
  pub answer_is : answer ≡ answer_of f room
  pub out_is : out ≡ out_after f room
  pub records_are : records ≡ records_after (standing f room) n.records
  pub rows_are : rows ≡ rows_after (standing f room) n.rows
  pub motions_are : motions ≡ motions_after (standing f room) n.motions
