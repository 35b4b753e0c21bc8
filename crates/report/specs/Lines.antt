-- The bytes of a report, line by line; each line ends with a line feed.
use Rattle.std.specs.Prelude.{◌≡◌, ℕ, ◌-◌, ◌<◌, ◌≤◌, List, [], ◌++◌, length, replicate, take, Ok, Err, codes, decimal, Result}
use Rattle.std.specs.Option.{unwrap_or}
use Rattle.std.specs.List.{flat_map}
use Rattle.motions.specs.Naming.{name_of}
use Rattle.search.specs.declared.answer.Answer.{Answer}
use Rattle.search.specs.declared.answer.Answer.TheVariants.{Within, Beyond}
use Rattle.report.specs.declared.lines.Found.{Found}
use Rattle.report.specs.declared.refusal.Refusal.{Refusal}
use Rattle.writing.specs.declared.fault.OutputFault.{OutputFault}
use Rattle.report.specs.Refusals.{told_of}

-- the letters of a motion's name, and a space before them
abbrev pub letters : ℕ → List ℕ
letters m = unwrap_or (name_of m) []

abbrev pub spaced : ℕ → List ℕ
spaced m = codes " " ++ letters m

abbrev pub within_text : List ℕ → ℕ → List ℕ
within_text name rows = codes "(plan " ++ (name ++ (codes ")\n(within " ++ (decimal rows ++ codes ")\n")))

abbrev pub beyond_text : List ℕ → List ℕ → List ℕ
beyond_text name motions = ((codes "(plan " ++ (name ++ codes ")\n(beyond")) ++ flat_map spaced motions) ++ codes ")\n"

abbrev pub refused_text : ℕ → ℕ → List ℕ
refused_text number place = codes "(refused " ++ (decimal number ++ (codes " " ++ (decimal place ++ codes ")\n")))

-- the bytes of an answer on the plan of that name; the motions shown are the first of the list
abbrev pub answer_text : List ℕ → Answer → List ℕ → List ℕ
answer_text name (Within rows) motions = within_text name rows
answer_text name (Beyond count) motions = beyond_text name (take count motions)

-- the bytes of what was found
abbrev pub text_of : Result Found Refusal → List ℕ → List ℕ
text_of (Ok plan) motions = answer_text plan.name.now plan.answer motions
text_of (Err refusal) motions = refused_text (told_of refusal).0 (told_of refusal).1

-- no more motions are shown than the list of n has
abbrev pub Counts : Answer → ℕ → Type 0
Counts (Within rows) n = Unit {0}
Counts (Beyond count) n = count ≤ n

abbrev pub Shown : Result Found Refusal → ℕ → Type 0
Shown (Ok plan) n = Counts plan.answer n
Shown (Err refusal) n = Unit {0}

-- the bytes, and zeros behind them; or no room for the bytes, and nothing but zeros
abbrev pub WritesAll : List ℕ → List ℕ → Result ℕ OutputFault → List ℕ → Type 0
WritesAll old bs (Ok n) new = (n ≡ length bs) × (n ≤ length old) × (new ≡ bs ++ replicate (length old - n) 0)
WritesAll old bs (Err e) new = (length old < length bs) × (new ≡ replicate (length old) 0)
