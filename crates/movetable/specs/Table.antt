-- What a table of moves means.
use Rattle.std.specs.Prelude.{ℕ}
use Rattle.process.specs.Meaning.{Proc}
use Rattle.movetable.specs.Lists.{proc_of}
use Rattle.movetable.specs.declared.table.MoveTable.{MoveTable}

-- the process of its lists
abbrev pub meaning_of : {room : ℕ} → MoveTable room → Proc
meaning_of t = proc_of t.lists
