-- What a piece writes.
use Rattle.std.specs.Prelude.{ℕ, List, decimal}
use Rattle.writing.specs.declared.pieces.Piece.{Piece}
use Rattle.writing.specs.declared.pieces.Piece.TheVariants.{Bytes, Number}

abbrev pub piece_text : Piece → List ℕ
piece_text (Bytes bs) = bs.now
piece_text (Number n) = decimal n
