-- What reading promises, in terms of plans.
use Rattle.std.specs.Prelude.{◌≡◌, ℕ, zero, suc, ◌-◌, ◌≤◌, List, [], ◌++◌, length, take, replicate, Ok, Err, Result}
use Rattle.std.specs.Borrow.{Bor}
use Rattle.common.specs.declared.fault.Located.{Located}
use Rattle.formtable.specs.declared.record.Record.{Record}
use Rattle.formtable.specs.Places.{term}
use Rattle.formtable.specs.Vet.{verdict}
use Rattle.lexer.specs.declared.fault.TextFault.{TextFault}
use Rattle.reader.specs.declared.reading.Plan.{Plan}
use Rattle.reader.specs.Tokens.{ending, next_tok, PartFrom}
use Rattle.reader.specs.Reading.{empty_record}
use Rattle.reader.specs.Plans.{Tree, spell_plan, Spelt, size, flatten, term_of, Good}

-- the place of token k of the text from a on, counted from 0
abbrev pub token_place : List ℕ → ℕ → ℕ → ℕ
token_place s zero a = (next_tok s a).place
token_place s (suc k) a = token_place s k (next_tok s a).after

-- the text spells the plan of this name and tree, and nothing stands after it
pub record Written (s name : List ℕ) (t : Tree) : Type 0 where
  pub after : ℕ
  pub spelt : Spelt s (spell_plan name t) 0 after
  pub last : (next_tok s after).what ≡ ending

-- the text is a plan that a list of cap records takes
pub record Readable (s : List ℕ) (cap : ℕ) (name : List ℕ) (t : Tree) : Type 0 where
  pub short : length s ≤ 16384
  pub written : Written s name t
  pub good : Good [] 0 0 t
  pub few : size t ≤ 64
  pub fits : size t ≤ cap

-- the plan that was read: its name is the third token, its records are the tree's, and empty ones stand after them;
-- the term of its table is the one that the tree writes
pub record Taken (text : Bor (List ℕ)) (cap : ℕ) (plan : Plan) (ys : List Record) : Type 0 where
  pub tree : Tree
  pub readable : Readable text.now cap plan.name.now tree
  pub part : PartFrom text (token_place text.now 2 0) plan.name
  pub all : plan.count ≡ size tree
  pub records : ys ≡ flatten [] 0 tree ++ replicate (cap - size tree) empty_record
  pub means : term (take plan.count ys) 0 ≡ term_of [] 0 tree

-- accepted exactly when the text is readable
abbrev pub Spells : Bor (List ℕ) → ℕ → Result Plan (Located TextFault) → List Record → Type 0
Spells text cap (Ok plan) ys = Taken text cap plan ys
Spells text cap (Err f) ys = (name : List ℕ) (t : Tree) → Readable text.now cap name t → ⊥

-- what is accepted passes vetting
abbrev pub Vets : Result Plan (Located TextFault) → List Record → Type 0
Vets (Ok plan) ys = verdict (take plan.count ys) ≡ Ok tt
Vets (Err f) ys = Unit {0}
