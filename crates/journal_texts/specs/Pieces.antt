-- For the code: the lines of events from plain values.
use Rattle.std.specs.Prelude.{ℕ, List, ◌++◌, codes, slice_index}
use Rattle.mesh_rules.specs.Texts.{line, named, three}
use Rattle.sparse_pool.specs.declared.place.Place.{Place}
use Rattle.journal_texts.specs.declared.heading.Heading.{Heading}
use Rattle.journal_texts.specs.Lines.{places_text}

-- a word and three numbers
abbrev pub word_and_three : List ℕ → List ℕ → List ℕ
word_and_three word numbers = three word (slice_index numbers 0) (slice_index numbers 1) (slice_index numbers 2)

abbrev pub take_line : List ℕ → List Place → List ℕ
take_line numbers places = line (word_and_three (codes "take ") numbers ++ places_text places)

-- a word and places
abbrev pub word_and_places : List ℕ → List Place → List ℕ
word_and_places word places = word ++ places_text places

abbrev pub give_line : List ℕ → List Place → List Place → List ℕ
give_line numbers made freed =
    line (word_and_three (codes "give ") numbers
    ++ codes " made" ++ places_text made ++ codes " freed" ++ places_text freed)

abbrev pub deliver_line : ℕ → ℕ → List Place → List ℕ
deliver_line seat letter made =
    line (named (codes "deliver ") seat ++ named (codes " ") letter ++ codes " made" ++ places_text made)

-- the second line of a heading
abbrev pub counts_line : Heading → List ℕ
counts_line h =
    line (named (codes "cycle ") h.cycle ++ named (codes " stages ") h.stages
    ++ named (codes " partitions ") h.partitions ++ named (codes " seats ") h.seats)
