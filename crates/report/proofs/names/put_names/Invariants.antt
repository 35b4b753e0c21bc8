use Rattle.std.proofs.Common.{take, Ok}
use Rattle.std.specs.List.{flat_map}
use Rattle.report.specs.Lines.{spaced}
use Rattle.writing.specs.Output.{Writes}
use Rattle.report.proofs.names.put_names.Given as goal

abbrev pub invariant-loop-motion : goal.invariant-loop-motion
invariant-loop-motion l = Writes l.fn.to (flat_map spaced (take l.motion-index l.motions)) (Ok tt) l.to
