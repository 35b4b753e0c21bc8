use Rattle.std.proofs.Common.{length, ap}
use Rattle.process.specs.Meaning.{Proc}
use Rattle.rowtable.proofs.table.as_process.RowTableProcess.degree.Goals as goal

pub returns : goal.returns
returns c = let e = ap (λ (p : Proc). length (p.moves c.args.s)) c.args.self.now.same in cc
