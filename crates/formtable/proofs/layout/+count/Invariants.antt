use Rattle.std.proofs.Common.{◌-◌, length}
use Rattle.formtable.proofs.layout.+count.Given as goal

abbrev pub decreases-count : goal.decreases-count
decreases-count l = length l.table.now - l.i
