use Rattle.std.proofs.Common.{List, ◌++◌}
use Rattle.std.specs.Str.Iter.{split_whitespace_rest}
use Rattle.cases.specs.Line.{IsLine}
use Rattle.cases.proofs.numbers.parsed.Given as goal

-- what is left goes on with the numbers so far
abbrev pub invariant-loop-word : goal.invariant-loop-word
invariant-loop-word g l =
    (ns : List _) → IsLine g.N.FromStr.from_str_gives g.N.Into.converts (split_whitespace_rest l.word-iterator) ns → IsLine g.N.FromStr.from_str_gives g.N.Into.converts l.line (l.all.items ++ ns)
