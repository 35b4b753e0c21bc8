use Rattle.std.proofs.Common.{◌≡◌, length}
use Rattle.cases.specs.Reading.{ReadsAll}
use Rattle.cases.proofs.numbers.VecWritten.read.Given as goal

abbrev pub invariant-loop : goal.invariant-loop
invariant-loop g l = record {
  so_many : length l.parts.items ≡ l.counter;
  read : ReadsAll g.T.Written.Reads l.initial.numbers l.parts.items l.numbers;
}
