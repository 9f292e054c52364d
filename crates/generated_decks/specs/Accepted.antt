-- That the reader of problems accepts a deck.
use Rattle.std.specs.Prelude.{IsOk}
use Rattle.input_file.specs.Blocks.{Blocks}
use Rattle.problem_set.specs.Problems.{problem}

-- the deck gives a problem
abbrev pub IsAccepted : Blocks → Type 0
IsAccepted d = IsOk (problem d)
