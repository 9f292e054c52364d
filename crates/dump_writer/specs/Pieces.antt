-- For the code: the text of a piece in two parts.
use Rattle.std.specs.Prelude.{ℕ, List, ◌++◌}
use Rattle.dump_writer.specs.declared.piece.Piece.{Piece}

abbrev pub text_of : Piece → List ℕ
text_of piece = piece.first.items ++ piece.rest.items
