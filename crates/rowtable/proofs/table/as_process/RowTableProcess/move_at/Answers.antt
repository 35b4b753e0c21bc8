use Rattle.std.proofs.Common.{ap}
use Rattle.std.specs.List.{slice_get}
use Rattle.process.specs.Meaning.{Proc}
use Rattle.rowtable.proofs.table.as_process.RowTableProcess.move_at.Goals as goal

pub returns : goal.returns
returns c = let e = ap (λ (p : Proc). slice_get (p.moves c.args.s) c.args.k) c.args.self.now.same in cc
