-- What a controller holds.
use Rattle.controller.specs.declared.controller.Controller.{Controller}
use Rattle.movetable.specs.Table.{meaning_of}
use Rattle.controller.specs.Record.{Record, keeping}

-- the record of a controller: what its moves mean, and its run
abbrev pub view : Controller → Record
view c = keeping (meaning_of c.moves) c.run
