-- A small process for the tests: it moves as the Shuttle does, from state 0 in silence to state 1 and by motion 3 back; state 2 is still.
use Rattle.process.specs.Meaning.{Proc}
use Rattle.reach.specs.Shuttle.{shuttle_moves}

abbrev pub yard_meaning : Proc
yard_meaning = record { states = 3; moves = shuttle_moves }
