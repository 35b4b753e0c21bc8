use Rattle.std.proofs.Common.{◌-◌, length}
use Rattle.formtable.proofs.layout.+past.Given as goal

abbrev pub decreases-past : goal.decreases-past
decreases-past l = length l.table.now - l.i
