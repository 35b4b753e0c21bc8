use Rattle.std.proofs.Common.{drop}
use Rattle.rowtable.specs.Rows.{moves_of}
use Rattle.rowtable.proofs.Indexing.{Adding}
use Rattle.rowtable.proofs.index.add_state_of.Given as goal

abbrev pub invariant-loop-row : goal.invariant-loop-row
invariant-loop-row l = Adding l.fn.lists (moves_of l.s l.rows) (moves_of l.s (drop l.row-index l.rows)) l.lists
