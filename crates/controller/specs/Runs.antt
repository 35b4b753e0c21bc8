-- The calls on a run, each as an equation: the answer, and the run after a grant.
use Rattle.std.specs.Prelude.{ℕ, ◌+◌, Bool, true, false, cond, ◌&&◌, ◌==◌, nat_le}
use Rattle.process.specs.Meaning.{Proc}
use Rattle.process.specs.Sets.{only}
use Rattle.reach.specs.Reach.{after}
use Rattle.controller.specs.declared.fault.DriverFault.TheVariants.{RunOn, NoRun, UnknownMotion, StillWaiting, StaleSlip, NoNumberLeft, NotAllowed}
use Rattle.controller.specs.declared.run.Run.{Run}
use Rattle.controller.specs.declared.run.Stage.{Stage}
use Rattle.controller.specs.declared.run.Stage.TheVariants.{Bare, Ready, Running, Waiting}
use Rattle.controller.specs.Histories.{Answer, granted, denied, driver}

-- a run from its stage, its cursor and its count
abbrev pub run_of : Stage → ℕ → ℕ → Run
run_of s T n = record { stage = s; cursor = record { bits = T }; count = n }

-- from the factory
abbrev pub fresh_run : Run
fresh_run = run_of Bare 0 0

-- is a run on
abbrev pub is_on : Stage → Bool
is_on Bare = false
is_on Ready = false
is_on Running = true
is_on Waiting = true

-- is it a motion that the controller knows
abbrev pub is_known_motion : ℕ → Bool
is_known_motion m = nat_le 1 m && nat_le m 24

-- a denied call leaves the run as it is
abbrev pub kept : Answer → Run → Run → Run
kept (granted n) before later = later
kept (denied n i) before later = before

-- the run at another stage
abbrev pub at_stage : Stage → Run → Run
at_stage s r = run_of s r.cursor.bits r.count

-- start is granted from ready on
abbrev pub start_answer : Stage → Answer
start_answer Bare = driver NoRun
start_answer Ready = granted 0
start_answer Running = driver RunOn
start_answer Waiting = driver RunOn

-- a started run is at state 0
abbrev pub started : Run → Run
started r = run_of Running (only 0) r.count

-- the run after a start
abbrev pub after_start : Run → Run
after_start r = kept (start_answer r.stage) r (started r)

-- release of the motion m, where T is the set after it and n the count
abbrev pub release_answer : Stage → ℕ → ℕ → ℕ → Answer
release_answer Bare T n m = driver NoRun
release_answer Ready T n m = driver NoRun
release_answer Waiting T n m = driver StillWaiting
release_answer Running T n m =
    cond (is_known_motion m)
    (cond (T == 0) (driver NotAllowed)
    (cond (n == 4294967295) (driver NoNumberLeft) (granted (n + 1))))
    (driver UnknownMotion)

-- a run after a release waits, with the set T as its cursor
abbrev pub advanced : ℕ → Run → Run
advanced T r = run_of Waiting T (r.count + 1)

-- the set after the motion m, where the moves of p are followed from the cursor on
abbrev pub ahead : Proc → Run → ℕ → ℕ
ahead p r m = after p r.cursor.bits m

-- release of m there
abbrev pub release_from : Proc → Run → ℕ → Answer
release_from p r m = release_answer r.stage (ahead p r m) r.count m

-- the run after it
abbrev pub after_release : Proc → Run → ℕ → Run
after_release p r m = kept (release_from p r m) r (advanced (ahead p r m) r)

-- done and failed are granted for a slip of number k that is waited for, where n is the count
abbrev pub slip_answer : Stage → ℕ → ℕ → Answer
slip_answer Bare n k = driver StaleSlip
slip_answer Ready n k = driver StaleSlip
slip_answer Running n k = driver StaleSlip
slip_answer Waiting n k = cond (k == n) (granted 0) (driver StaleSlip)

-- the run after them: the granted one leads to the stage
abbrev pub after_slip : Stage → Run → ℕ → Run
after_slip to r k = kept (slip_answer r.stage r.count k) r (at_stage to r)

-- rest is granted while a run is on
abbrev pub rest_answer : Stage → Answer
rest_answer Bare = driver NoRun
rest_answer Ready = driver NoRun
rest_answer Running = granted 0
rest_answer Waiting = granted 0

-- the run after a rest
abbrev pub after_rest : Run → Run
after_rest r = kept (rest_answer r.stage) r (at_stage Ready r)
