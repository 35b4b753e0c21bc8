-- The motions that a process allows.
use Rattle.std.specs.Prelude.{◌≡◌, ℕ, ◌+◌, ◌-◌, ◌≤◌, Bool, true, false, ◌↔◌, List, [], ◌∷◌, ◌++◌, map, nat_lt, slice_index_or}
use Rattle.std.specs.List.{range_with_len}
use Rattle.process.specs.Meaning.{Proc}
use Rattle.process.specs.Runs.{Trace}
use Rattle.process.specs.Sets.{only}
use Rattle.reach.specs.Reach.{after, after_all, NoneSilent}

-- does p do the motion from a state of the set T
abbrev pub allowed : Proc → ℕ → ℕ → Bool
allowed p T m = nat_lt 0 (after p T m)

-- for each motion from 1 to 24, whether it does
abbrev pub allowed_from : Proc → ℕ → List Bool
allowed_from p T = map (λ i. allowed p T (i + 1)) (range_with_len 0 24)

-- the same after the motions w
abbrev pub allowed_list : Proc → List ℕ → List Bool
allowed_list p w = allowed_from p (after_all p (only 0) w)

-- the list says of each motion m from 1 to 24 whether w, followed by m, is a trace of p
abbrev pub Allows : Proc → List ℕ → List Bool → Type 0
Allows p w list = NoneSilent w → (m : ℕ) → 1 ≤ m → m ≤ 24 → (slice_index_or list (m - 1) false ≡ true) ↔ Trace p (w ++ m ∷ [])
