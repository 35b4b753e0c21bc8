-- The numbers that are left of a line.
use Rattle.std.specs.Prelude.{ℕ, List}
use Rattle.std.specs.Vec.Iter.{into_iter_items}
use Rattle.cases.specs.declared.numbers.Left.{Left}
use Rattle.cases.specs.declared.numbers.Left.TheVariants.{Short, Long}

-- the numbers, in whichever width they are held
abbrev pub left_of : Left → List ℕ
left_of (Short left) = into_iter_items left
left_of (Long left) = into_iter_items left
