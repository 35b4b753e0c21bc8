use Rattle.std.proofs.Common.{take, Ok}
use Rattle.std.specs.List.{flat_map}
use Rattle.writing.specs.Output.{Writes}
use Rattle.writing.specs.Pieces.{piece_text}
use Rattle.writing.proofs.output.Output.put_pieces.Given as goal

abbrev pub invariant-loop-piece : goal.invariant-loop-piece
invariant-loop-piece l = Writes l.fn.self (flat_map piece_text (take l.piece-index l.pieces)) (Ok tt) l.self
