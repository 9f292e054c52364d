-- The names of the blocks of a kind.
use Rattle.std.specs.Prelude.{◌++◌, nat_eq, nat_le, ℕ, pos, Bool, List, map, filter, length, Result, codes}
use Rattle.std.specs.List.{starts_with}
use Rattle.input_file.specs.Texts.{Text}
use Rattle.input_file.specs.Blocks.{Blocks}
use Rattle.deck_values.specs.declared.fault.ProblemFault.{ProblemFault}
use Rattle.deck_values.specs.declared.fault.ProblemFault.TheVariants.{Limit}
use Rattle.deck_values.specs.Reading.{only_if}

-- the name of a block is of a kind where it begins with the kind and a slash
abbrev pub is_of_kind : Text → Text → Bool
is_of_kind kind name = starts_with nat_eq name (kind ++ codes "/")

-- the names of the blocks of a kind, in deck order
unfoldable pub names_of : Blocks → Text → List Text
names_of d kind = filter (is_of_kind kind) (map (λ e. e.0) d)

-- the same, of which there may be only so many
unfoldable pub names_within : Blocks → Text → ℕ → Result (List Text) ProblemFault
names_within d kind most =
    only_if (nat_le (length (names_of d kind)) most) (names_of d kind) (Limit kind (codes "count") (pos (length (names_of d kind))))
