-- The plan that a text writes.
use Rattle.std.specs.Prelude.{◌≡◌, ℕ, List, Ok, Err, Result}
use Rattle.common.specs.declared.fault.Located.{Located}
use Rattle.formtable.specs.Table.{contents}
use Rattle.lexer.specs.declared.fault.TextFault.{TextFault}
use Rattle.reader.specs.Reading.{Outline, read_plan}
use Rattle.desk.specs.declared.plans.Plan.{Plan}

-- the plan has that name, and its table holds those records
pub record Holds (p : Plan) (x : Outline) : Type 0 where
  pub name : p.name.now ≡ x.name
  pub records : contents p.table ≡ x.rows

-- the text reads as that plan, or is refused by that fault
abbrev pub Reads : List ℕ → Result Plan (Located TextFault) → Type 0
Reads s (Ok p) = (x : Outline) × (read_plan s 64 ≡ Ok x) × Holds p x
Reads s (Err f) = read_plan s 64 ≡ Err f
