-- What the bytes of a report say, in terms of the term that the text writes and the traces of the permit.
use Rattle.std.specs.Prelude.{◌≡◌, ℕ, ◌≤◌, true, List, [], ◌∷◌, length, take, Ok, Err, Result}
use Rattle.process.specs.Meaning.{Proc}
use Rattle.process.specs.Runs.{Trace}
use Rattle.formtable.specs.Terms.{Term, Language}
use Rattle.reader.specs.Plans.{Tree, term_of}
use Rattle.reader.specs.Promises.{Readable}
use Rattle.lexer.specs.Bytes.{is_word}
use Rattle.search.specs.Search.{Outcome, inside, beyond, fault}
use Rattle.formtable.specs.Places.{term}
use Rattle.formtable.specs.declared.record.Record.{Record}
use Rattle.report.specs.Finding.{Finding, lies_within, goes_beyond, is_refused}
use Rattle.report.specs.Lines.{within_text, beyond_text}

-- every trace of the term is a trace of the permit
abbrev pub TermWithin : Proc → Term → Type 0
TermWithin permit t = (w : List ℕ) → Language t w → Trace permit w

-- w is a trace of the term that the permit lacks, and every such trace has at least as many motions
pub record TermBeyond (permit : Proc) (w : List ℕ) (t : Term) : Type 0 where
  pub of_term : Language t w
  pub not_permit : Trace permit w → ⊥
  pub least : (v : List ℕ) → Language t v → (Trace permit v → ⊥) → length w ≤ length v

-- the text writes a plan of that name, and that holds of its term
abbrev pub Writes : List ℕ → ℕ → List ℕ → (Term → Type 0) → Type 0
Writes s cap name P = (t : Tree) × Readable s cap name t × P (term_of [] 0 t)

-- the motions are known: 1 to 24
abbrev pub AllKnown : List ℕ → Type 0
AllKnown [] = Unit {0}
AllKnown (m ∷ ms) = (1 ≤ m) × (m ≤ 24) × AllKnown ms

-- what a search's outcome tells of the term of the records
abbrev pub SearchTold : Proc → List Record → Outcome → Type 0
SearchTold permit records (inside rows) = TermWithin permit (term records 0)
SearchTold permit records (beyond w) = TermBeyond permit w (term records 0) × AllKnown w
SearchTold permit records (fault k) = Unit {0}

-- what a finding tells of the text s, read into a list of cap records
abbrev pub Told : Proc → List ℕ → ℕ → Finding → Type 0
Told permit s cap (lies_within name records rows) = Writes s cap name (TermWithin permit)
Told permit s cap (goes_beyond name records w) = Writes s cap name (TermBeyond permit w) × AllKnown w
Told permit s cap (is_refused number place) = Unit {0}

-- what the bytes say of the text s, read into a list of cap records
pub record Says (permit : Proc) (s : List ℕ) (cap : ℕ) (bytes : List ℕ) : Type 0 where
  -- where they say within, every trace of the term that the text writes is a trace of the permit
  pub within : (name : List ℕ) (rows : ℕ) → is_word name ≡ true → bytes ≡ within_text name rows → Writes s cap name (TermWithin permit)
  -- where they say beyond, the motions shown are a shortest trace of that term that the permit lacks
  pub beyond : (name motions : List ℕ) → is_word name ≡ true → AllKnown motions → bytes ≡ beyond_text name motions → Writes s cap name (TermBeyond permit motions)

-- what a report says: that of the bytes it counts; refused for want of room, it says nothing
abbrev pub Reports : Proc → List ℕ → ℕ → Result ℕ ℕ → List ℕ → Type 0
Reports permit s cap (Ok n) out = Says permit s cap (take n out)
Reports permit s cap (Err k) out = Unit {0}
