-- What a vetted table holds and means.
use Rattle.std.specs.Prelude.{ℕ, List, [], ◌∷◌, take, Ok, Err, Result}
use Rattle.process.specs.Meaning.{Proc}
use Rattle.formtable.specs.Kinds.{row}
use Rattle.formtable.specs.Meaning.{process}
use Rattle.formtable.specs.declared.record.Record.{Record}
use Rattle.formtable.specs.declared.table.FormTable.{FormTable}

-- the records that it holds
abbrev pub contents : FormTable → List Record
contents t = take t.len t.records

-- the process that it means
abbrev pub meaning : FormTable → Proc
meaning t = process (contents t)

-- a single end
abbrev pub single : List Record
single = row 0 0 ∷ []

-- what a table holds after a verdict on the records: them if they pass, else a single end
abbrev pub held : Result (Unit {0}) ℕ → List Record → List Record
held (Ok v) raw = raw
held (Err n) raw = single
