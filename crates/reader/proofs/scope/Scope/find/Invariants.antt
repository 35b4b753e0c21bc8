use Rattle.std.proofs.Common.{◌≡◌}
use Rattle.reader.specs.Reading.{lookup, recs_at, around}
use Rattle.reader.proofs.scope.Scope.find.Given as goal

abbrev pub invariant-loop-next : goal.invariant-loop-next
invariant-loop-next l = lookup (recs_at l.next) l.name ≡ lookup (around l.self) l.name
