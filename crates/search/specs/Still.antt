-- A small process for the tests: one state, without moves.
use Rattle.std.specs.Prelude.{[]}
use Rattle.process.specs.Meaning.{Proc}

abbrev pub still_meaning : Proc
still_meaning = record { states = 1; moves = λ s. [] }
