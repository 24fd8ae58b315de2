-- The parts of a printed line.
use Rattle.std.specs.Prelude.{ℕ, List}
use Rattle.std.specs.Fmt.{decimal}
use Rattle.pb_keys.specs.Printed.{word}
use Rattle.pb_reply.specs.declared.pieces.Piece.{Piece}
use Rattle.pb_reply.specs.declared.pieces.Piece.TheVariants.{Plain, Number, Word}

abbrev pub piece_text : Piece → List ℕ
piece_text (Plain text) = text.now
piece_text (Number number) = decimal number
piece_text (Word bytes) = word bytes.now
