-- Lists of the caller's, as a call leaves them.
use Rattle.std.specs.Prelude.{ℕ, ◌-◌, List, ◌++◌, length, take, replicate}

-- xs with x at every place from n on
abbrev pub filled_from : {X : Type 0} → List X → ℕ → X → List X
filled_from xs n x = take n xs ++ replicate (length xs - n) x
