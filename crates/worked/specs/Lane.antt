-- A lane: a plan and a permit as they are given, the caller's lists, and the answer that the definitions give.
use Rattle.std.specs.Prelude.{◌≡◌, ℕ, List, length, Ok, Err, codes, Result}
use Prim.Native.String.{String}
use Rattle.common.specs.declared.fault.Located.{Located}
use Rattle.process.specs.Meaning.{Proc}
use Rattle.formtable.specs.Meaning.{process}
use Rattle.formtable.specs.Vet as forms
use Rattle.formtable.specs.declared.record.Record.{Record}
use Rattle.rowtable.specs.Rows as rows
use Rattle.rowtable.specs.Rows.{Written, meant}
use Rattle.lexer.specs.Faults.{text_number}
use Rattle.lexer.specs.declared.fault.TextFault.{TextFault}
use Rattle.reader.specs.Reading.{Outline, read_plan}
use Rattle.gate.specs.Follow.{plain}
use Rattle.gate.specs.Gate.{Verdict, gate}
use Rattle.gate.specs.Theorems.{Included}
use Rattle.search.specs.Rule.{searched}
use Rattle.search.specs.Search as search
use Rattle.search.specs.Theorems.{Shortest}

-- how a process is given: the text of a plan, the records of a form table, or a row table
pub data Given : Type 0 where
  plan_text : String → Given
  form_table : List Record → Given
  row_table : Written → Given

-- what a lane comes to: a certificate of so many rows, and what the gate says of it; the motions of a trace that the
-- permit lacks; or a refusal by its number
pub data Answer : Type 0 where
  within : ℕ → Verdict → Answer
  beyond : List ℕ → Answer
  refused : ℕ → Answer

-- a plan and a permit, the lengths of the caller's lists, and the answer that is expected
pub record Lane : Type 0 where
  pub plan : Given
  pub permit : Given
  pub records : ℕ
  pub rows : ℕ
  pub motions : ℕ
  pub expected : Answer

-- the process, by the verdict on its table
abbrev pub passing : Result (Unit {0}) ℕ → Proc → Result Proc ℕ
passing (Ok v) p = Ok p
passing (Err n) p = Err n

-- the process of a form table, if it passes vetting
abbrev pub vetted : List Record → Result Proc ℕ
vetted rs = passing (forms.verdict rs) (process rs)

-- the records that a text reads as are vetted too
abbrev pub read_as : Result Outline (Located TextFault) → Result Proc ℕ
read_as (Ok x) = vetted x.rows
read_as (Err f) = Err (text_number f.fault)

-- the process that is given, or the number by which it is refused; a text is read into a list of so many records
abbrev pub given : ℕ → Given → Result Proc ℕ
given records (plan_text s) = read_as (read_plan (codes s) records)
given records (form_table rs) = vetted rs
given records (row_table w) = passing (rows.verdict w.states w.rows) (meant w)

-- what a search comes to; rows that it lists are put to the gate
abbrev pub judged : Proc → Proc → search.Outcome → Answer
judged plan permit (search.inside rows) = within (length rows) (gate plain plan permit rows)
judged plan permit (search.beyond w) = beyond w
judged plan permit (search.fault n) = refused n

-- the answer, with lists for so many rows and motions: the plan's refusal, the permit's, or what the search comes to
abbrev pub answer_by : Result Proc ℕ → Result Proc ℕ → ℕ → ℕ → Answer
answer_by (Err n) permit rows motions = refused n
answer_by (Ok plan) (Err n) rows motions = refused n
answer_by (Ok plan) (Ok permit) rows motions = judged plan permit (searched plain plan permit rows motions)

-- the plan and the permit of a lane
abbrev pub plan_of : Lane → Result Proc ℕ
plan_of l = given l.records l.plan

abbrev pub permit_of : Lane → Result Proc ℕ
permit_of l = given l.records l.permit

-- the lane's answer
abbrev pub answer : Lane → Answer
answer l = answer_by (plan_of l) (permit_of l) l.rows l.motions

-- both are processes, and so related
abbrev pub Both : (Proc → Proc → Type 0) → Result Proc ℕ → Result Proc ℕ → Type 0
Both R (Ok plan) (Ok permit) = R plan permit
Both R (Ok plan) (Err n) = ⊥
Both R (Err n) permit = ⊥

-- what an answer says of the plan and the permit: every trace of the plan is one of the permit; or the motions are a
-- shortest trace of the plan that the permit lacks
abbrev pub Says : Answer → Result Proc ℕ → Result Proc ℕ → Type 0
Says (within n v) plan permit = Both Included plan permit
Says (beyond w) plan permit = Both (λ p q. Shortest p q w) plan permit
Says (refused n) plan permit = Unit {0}

-- the lane's answer is the expected one, and what it says is so
pub record Stands (l : Lane) : Type 0 where
  pub answered : answer l ≡ l.expected
  pub is_so : Says l.expected (plan_of l) (permit_of l)
