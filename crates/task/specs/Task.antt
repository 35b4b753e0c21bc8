-- The task as it must go: what is found of each plan, every step with its reply, and the history that they are.
use Rattle.std.specs.Prelude.{ℕ, List, [], ◌∷◌, Some, None, Option, Ok, Err}
use Rattle.controller.specs.Histories.{Call, admit, History}
use Rattle.controller.specs.Record.{Record, keeping}
use Rattle.controller.specs.Runs.{run_of}
use Rattle.controller.specs.declared.fault.DriverFault.{DriverFault}
use Rattle.controller.specs.declared.fault.DriverFault.TheVariants.{NotAllowed, StaleSlip}
use Rattle.controller.specs.declared.run.Stage.TheVariants.{Ready, Running}
use Rattle.search.specs.declared.answer.Answer.TheVariants.{Within, Beyond}
use Rattle.task.specs.declared.judging.Finding.{Finding}
use Rattle.task.specs.declared.judging.Finding.TheVariants.{Read, Vetted, Searched}
use Rattle.task.specs.declared.step.Asked.{Asked}
use Rattle.task.specs.declared.step.Asked.TheVariants.{AdmitFirst, AdmitSecond, Start, Release, Done, Failed, Rest}
use Rattle.task.specs.declared.step.Made.{Made}
use Rattle.task.specs.Plans.{the_permit, first_plan, first_rows, second_plan, second_rows}
use Rattle.task.specs.Steps.{unplaced, through}

-- a call that is granted, and gives no slip
abbrev pub granted : Asked → Option Made
granted q = Some (record { asked = q; reply = Ok None })

-- a call that is granted, and gives the slip of that number
abbrev pub gives : Asked → ℕ → Option Made
gives q n = Some (record { asked = q; reply = Ok (Some n) })

-- a call that is denied, by a driver's fault
abbrev pub denied : Asked → DriverFault → Option Made
denied q f = Some (record { asked = q; reply = unplaced (Err f) })

-- the first plan's run goes on to fwd, is denied lift, which gives no slip to hand back, and fails at leave
abbrev pub first_run_steps : List (Option Made)
first_run_steps =
    granted AdmitFirst
    ∷ granted Start
    ∷ gives (Release 12) 1
    ∷ granted (Done 1)
    ∷ gives (Release 1) 2
    ∷ granted (Done 2)
    ∷ denied (Release 6) NotAllowed
    ∷ None
    ∷ gives (Release 13) 3
    ∷ granted (Failed 3)
    ∷ []

-- in the next run a rest comes before enter is done, and then its slip is stale
abbrev pub stale_slip_steps : List (Option Made)
stale_slip_steps =
    granted Start
    ∷ gives (Release 12) 4
    ∷ granted Rest
    ∷ granted Start
    ∷ denied (Done 4) StaleSlip
    ∷ []

-- the run is ended, and the second plan is driven to lift
abbrev pub second_run_steps : List (Option Made)
second_run_steps =
    granted Rest
    ∷ granted AdmitSecond
    ∷ granted Start
    ∷ gives (Release 12) 5
    ∷ granted (Done 5)
    ∷ gives (Release 6) 6
    ∷ granted (Done 6)
    ∷ []

-- 5 records are read and vetted, and the plan is within by 4 rows
abbrev pub first_findings : List Finding
first_findings = Read 5 ∷ Vetted ∷ Searched (Within 4) ∷ []

-- the rows are vetted, and the plan is within by 3 rows
abbrev pub second_findings : List Finding
second_findings = Vetted ∷ Searched (Within 3) ∷ []

-- 4 records are read and vetted, and the plan is beyond by 3 motions
abbrev pub third_findings : List Finding
third_findings = Read 4 ∷ Vetted ∷ Searched (Beyond 3) ∷ []

-- enter, lift and fwd; the rest of the list stays empty
abbrev pub shown_motions : List ℕ
shown_motions = 12 ∷ 6 ∷ 1 ∷ 0 ∷ 0 ∷ 0 ∷ 0 ∷ 0 ∷ []

-- the admission of the first plan
abbrev pub first_admission : Call
first_admission = admit first_plan the_permit first_rows

-- the admission of the second
abbrev pub second_admission : Call
second_admission = admit second_plan the_permit second_rows

-- the controller's record after the first run, which failed behind leave, with 3 motions released
abbrev pub after_first : Record
after_first = keeping first_plan (run_of Ready 16 3)

-- after the stale slip: a run is at its start, and 4 motions were released
abbrev pub after_stale : Record
after_stale = keeping first_plan (run_of Running 1 4)

-- and after the second plan's steps: the load is up, and 6 motions were released in all
abbrev pub after_second : Record
after_second = keeping second_plan (run_of Running 4 6)

-- the history that steps of the task make
abbrev pub history_of : List (Option Made) → History
history_of ss = through first_admission second_admission ss []
