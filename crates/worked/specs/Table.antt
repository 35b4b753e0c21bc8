-- The worked lanes.
use Rattle.std.specs.Prelude.{ℕ, List, [], ◌∷◌}
use Rattle.std.specs.List.{AllByRecursion}
use Rattle.formtable.specs.Examples.{silent_loop}
use Rattle.gate.specs.Gate.{accepted}
use Rattle.bench.specs.Permit.{bench_table}
use Rattle.worked.specs.Lane.{Given, plan_text, form_table, row_table, Answer, within, beyond, refused, Lane, Stands}

-- the bench permit
abbrev pub bench : Given
bench = row_table bench_table

-- in, forward and out again, for ever
abbrev pub in_and_out : Given
in_and_out = plan_text "(plan a1 (rec x (do enter (do fwd (do leave (go x))))))"

-- forward with the load up
abbrev pub forward_lifted : Given
forward_lifted = plan_text "(plan b2 (do enter (do lift (do fwd (end)))))"

-- forward for ever, one step a round
abbrev pub ones : Given
ones = plan_text "(plan ones (rec x (do fwd (go x))))"

-- the same, two steps a round
abbrev pub twos : Given
twos = plan_text "(plan twos (rec x (do fwd (do fwd (go x)))))"

-- the same, one step or two a round
abbrev pub ones_or_twos : Given
ones_or_twos = plan_text "(plan either (rec x (do fwd (or (go x) (do fwd (go x))))))"

-- forward, and then the choice of lift and rev
abbrev pub choice_late : Given
choice_late = plan_text "(plan late (do fwd (or (do lift (end)) (do rev (end)))))"

-- the choice first, and forward on both sides of it
abbrev pub choice_early : Given
choice_early = plan_text "(plan early (or (do fwd (do lift (end))) (do fwd (do rev (end)))))"

-- nothing at all
abbrev pub nothing : Given
nothing = plan_text "(plan rest (end))"

-- silent steps for ever, as records
abbrev pub silence : Given
silence = form_table silent_loop

-- a plan against a permit, with lists for 1,024 records, so many rows, and 1,024 motions
abbrev pub lane : Given → Given → ℕ → Answer → Lane
lane p q n a = record { plan = p; permit = q; records = 1024; rows = n; motions = 1024; expected = a }

-- plan, permit, length of the row list, and the answer; the motions 12, 6 and 1 are enter, lift and fwd
abbrev pub lanes : List Lane
lanes =
    lane in_and_out bench 1024 (within 4 accepted)
    ∷ lane forward_lifted bench 1024 (beyond (12 ∷ 6 ∷ 1 ∷ []))
    ∷ lane ones twos 1024 (within 3 accepted)
    ∷ lane twos ones 1024 (within 3 accepted)
    ∷ lane ones ones_or_twos 1024 (within 3 accepted)
    ∷ lane choice_late choice_early 1024 (within 4 accepted)
    ∷ lane nothing bench 1024 (within 1 accepted)
    ∷ lane nothing bench 0 (refused 41)
    ∷ lane silence bench 1024 (refused 25)
    ∷ []

-- every lane of the table stands
abbrev pub LanesStand : Type 0
LanesStand = AllByRecursion Stands lanes
