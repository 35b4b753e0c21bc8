-- The vetted table, as its contracts see it.
use Rattle.std.specs.Prelude.{take}
use Rattle.process.specs.Meaning.{Proc}
use Rattle.rowtable.specs.Rows.{Written, meant}
use Rattle.rowtable.specs.declared.table.RowTable.{RowTable}

-- the table that it holds
abbrev pub contents : RowTable → Written
contents t = record { states = t.states; rows = take t.len t.rows }

-- the process that it means
abbrev pub meaning_of : RowTable → Proc
meaning_of t = meant (contents t)
