-- The moves of a state that are left to give.
use Rattle.std.specs.Prelude.{List, drop}
use Rattle.process.specs.Meaning.{Proc}
use Rattle.process.specs.declared.moves.Move.{Move}
use Rattle.process.specs.declared.move_list.MovesOf.{MovesOf}

abbrev pub left_of : {P : Type 0} → (P → Proc) → MovesOf P → List Move
left_of meaning c = drop c.at ((meaning c.process.now).moves c.state)
