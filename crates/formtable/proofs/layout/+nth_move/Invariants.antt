use Rattle.std.proofs.Common.{◌-◌, length}
use Rattle.formtable.proofs.layout.+nth_move.Given as goal

abbrev pub decreases-nth_move : goal.decreases-nth_move
decreases-nth_move l = length l.table.now - l.i
