-- What a report with these lists comes to.
use Rattle.std.specs.Prelude.{◌≡◌, ℕ, ◌<◌, List, length, Ok, Err, Result}
use Rattle.std.specs.Borrow.{Bor}
use Rattle.process.specs.Meaning.{Proc}
use Rattle.report.specs.Exactly.{bytes_of}
use Rattle.report.specs.Finding.{Finding}
use Rattle.report.specs.Says.{Says}
use Rattle.desk.specs.declared.lists.DoesNotFit.{DoesNotFit}

-- the bytes of the finding; none only where they are more than the room
abbrev pub Shows : Finding → ℕ → Result (Bor (List ℕ)) DoesNotFit → Type 0
Shows f room (Ok bytes) = bytes.now ≡ bytes_of f
Shows f room (Err e) = room < length (bytes_of f)

-- the bytes say of the text, read into a list of cap records, what a report says
abbrev pub SaysIt : Proc → List ℕ → ℕ → Result (Bor (List ℕ)) DoesNotFit → Type 0
SaysIt permit s cap (Ok bytes) = Says permit s cap bytes.now
SaysIt permit s cap (Err e) = Unit {0}
