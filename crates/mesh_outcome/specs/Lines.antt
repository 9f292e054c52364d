-- What is printed of how a call ended.
use Rattle.std.specs.Prelude.{ℕ, List, [], ◌∷◌, ◌++◌, codes}
use Rattle.std.specs.Fmt.{decimal}
use Rattle.input_file.specs.Printed.{printed}
use Rattle.mesh_outcome.specs.declared.outcome.Outcome.{Outcome}
use Rattle.mesh_outcome.specs.declared.outcome.Outcome.TheVariants as outcome
use Rattle.mesh_outcome.specs.RefusalWords.{refusal_words, usage_words}

-- a line of text
abbrev pub line : List ℕ → List ℕ
line text = text ++ 10 ∷ []

-- how the run ended
abbrev pub done_words : ℕ → ℕ → ℕ → List ℕ
done_words cycles blocks total = codes "done cycles=" ++ (decimal cycles ++ (codes " blocks=" ++ (decimal blocks ++
    (codes " total=" ++ decimal total))))

-- how the run stopped at a cycle
abbrev pub too_many_words : ℕ → ℕ → List ℕ
too_many_words cycle leaves = codes "too many blocks at cycle " ++ (decimal cycle ++ (codes ": " ++ decimal leaves))

-- all that is printed: one line, or the deck
abbrev pub text_of : Outcome → List ℕ
text_of (outcome.Done cycles blocks total) = line (done_words cycles blocks total)
text_of (outcome.Listed deck) = printed deck
text_of (outcome.Usage fault) = line (codes "usage: " ++ usage_words fault)
text_of (outcome.Refused r) = line (codes "refused: " ++ refusal_words r)
text_of outcome.ReadFault = line (codes "read fault")
text_of outcome.WriteFault = line (codes "write fault")
text_of outcome.NoMemory = line (codes "no memory")
text_of outcome.TooManyAtStart = line (codes "too many blocks at start")
text_of (outcome.TooManyBlocks cycle leaves) = line (too_many_words cycle leaves)

-- the line of an outcome has no number and no name in it
abbrev pub IsFixed : Outcome → Type 0
IsFixed (outcome.Done cycles blocks total) = ⊥
IsFixed (outcome.Listed deck) = ⊥
IsFixed (outcome.Usage fault) = Unit {0}
IsFixed (outcome.Refused r) = ⊥
IsFixed outcome.ReadFault = Unit {0}
IsFixed outcome.WriteFault = Unit {0}
IsFixed outcome.NoMemory = Unit {0}
IsFixed outcome.TooManyAtStart = Unit {0}
IsFixed (outcome.TooManyBlocks cycle leaves) = ⊥
