-- A few sets of the bench permit and of a table with silent steps, as they compute.
use Rattle.std.specs.Prelude.{◌≡◌, [], ◌∷◌}
use Rattle.process.specs.Meaning.{Proc}
use Rattle.reach.specs.Reach.{silent_reach, after}
use Rattle.rowtable.specs.Rows.{meant}
use Rattle.bench.specs.Permit.{bench_table, row}

-- 0 steps silently to 1, and 1 to 2 and back to 0; 2 moves by fwd to 0 and 1
abbrev pub circle : Proc
circle = meant (record { states = 3; rows = row 0 0 1 ∷ row 1 0 2 ∷ row 1 0 0 ∷ row 2 1 0 ∷ row 2 1 1 ∷ [] })

pub record StepsThrough : Type 0 where
  -- outside, enter leads inside; there lift leads up, and up there is no fwd
  pub enter_leads_in : after (meant bench_table) 1 12 ≡ 2
  pub lift_leads_up : after (meant bench_table) 2 6 ≡ 4
  pub no_fwd_up : after (meant bench_table) 4 1 ≡ 0
  -- without silent steps a set reaches only itself
  pub nothing_silent : silent_reach (meant bench_table) 6 ≡ 6
  -- round a silent circle everything is reached, and from state 2 nothing more
  pub all_round : silent_reach circle 1 ≡ 7
  pub end_of_it : silent_reach circle 4 ≡ 4
  pub fwd_from_0 : after circle 1 1 ≡ 3
