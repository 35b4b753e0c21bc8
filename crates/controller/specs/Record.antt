-- The controller's record, and each call as an equation on it.
use Rattle.std.specs.Prelude.{ℕ, cond, nat_lt}
use Rattle.process.specs.Meaning.{Proc}
use Rattle.gate.specs.Follow.{plain}
use Rattle.gate.specs.Gate.{Verdict, accepted, refused, gate}
use Rattle.controller.specs.declared.fault.DriverFault.TheVariants.{RunOn, TooManyMoves}
use Rattle.controller.specs.declared.run.Run.{Run}
use Rattle.controller.specs.declared.run.Stage.{Stage}
use Rattle.controller.specs.declared.run.Stage.TheVariants.{Bare, Ready, Running, Waiting}
use Rattle.controller.specs.Histories.{idle, Call, admit, start, release, done, failed, rest, Answer, granted, denied, driver}
use Rattle.movetable.specs.Lists.{moves_in_all}
use Rattle.controller.specs.Runs.{fresh_run, at_stage, start_answer, started, ahead, release_from, advanced, slip_answer, rest_answer}

-- the moves of the plan, and the run through them
pub record Record : Type 0 where
  pub moves : Proc
  pub run : Run

-- a record from its parts
abbrev pub keeping : Proc → Run → Record
keeping p r = record { moves = p; run = r }

-- from the factory
abbrev pub factory : Record
factory = keeping idle fresh_run

-- the gate's verdict, then the test of the number of moves
abbrev pub judged : Verdict → ℕ → Answer
judged (refused n i) size = denied n i
judged accepted size = cond (nat_lt 256 size) (driver TooManyMoves) (granted 0)

-- admit of a plan of so many moves, with that verdict
abbrev pub admit_answer : Stage → Verdict → ℕ → Answer
admit_answer Bare v size = judged v size
admit_answer Ready v size = judged v size
admit_answer Running v size = driver RunOn
admit_answer Waiting v size = driver RunOn

-- what a call answers
abbrev pub answer : Record → Call → Answer
answer c (admit plan permit rows) = admit_answer c.run.stage (gate plain plan permit rows) (moves_in_all plan)
answer c start = start_answer c.run.stage
answer c (release m) = release_from c.moves c.run m
answer c (done k) = slip_answer c.run.stage c.run.count k
answer c (failed k) = slip_answer c.run.stage c.run.count k
answer c rest = rest_answer c.run.stage

-- what a granted call leaves
abbrev pub moved : Record → Call → Record
moved c (admit plan permit rows) = keeping plan (at_stage Ready c.run)
moved c start = keeping c.moves (started c.run)
moved c (release m) = keeping c.moves (advanced (ahead c.moves c.run m) c.run)
moved c (done k) = keeping c.moves (at_stage Running c.run)
moved c (failed k) = keeping c.moves (at_stage Ready c.run)
moved c rest = keeping c.moves (at_stage Ready c.run)

-- a denied call leaves the record as it is
abbrev pub left : Answer → Record → Call → Record
left (granted n) c k = moved c k
left (denied n i) c k = c

-- what a call leaves
abbrev pub next : Record → Call → Record
next c k = left (answer c k) c k
