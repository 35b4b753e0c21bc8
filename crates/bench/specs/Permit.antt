-- The bench permit.
use Rattle.std.specs.Prelude.{[], ◌∷◌, ℕ}
use Rattle.rowtable.specs.Rows.{Written}
use Rattle.rowtable.specs.declared.transition.Transition.{Transition}

abbrev pub row : ℕ → ℕ → ℕ → Transition
row s a t = record { from = s; motion = a; to = t }

-- outside the lane (0), inside with the load down (1), inside with the load up (2): enter and leave, fwd and rev with
-- the load down, only rev with the load up, lift and lower
abbrev pub bench_table : Written
bench_table =
    record {
      states = 3;
      rows = row 0 12 1 ∷ row 1 1 1 ∷ row 1 2 1 ∷ row 1 6 2 ∷ row 2 2 2 ∷ row 2 7 1 ∷ row 1 13 0 ∷ [];
    }
