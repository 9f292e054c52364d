-- A deck as contracts see it: its blocks in order, each a name and its keys with their values in order.
use Rattle.std.specs.Prelude.{ℕ, List, [], Option, unwrap_or, option_map, slice_get}
use Rattle.std.specs.Str.{bytes_eq}
use Rattle.std.specs.Map.{lookup}
use Rattle.indexmap.specs.IndexMap.{insert_entry}
use Rattle.input_file.specs.Texts.{Text}

-- the keys of a block with their values
abbrev pub Entries : Type 0
Entries = List (Text × Text)

-- the blocks of a deck
abbrev pub Blocks : Type 0
Blocks = List (Text × Entries)

-- the keys of a block with their values, none where the block isn't there
abbrev pub keys_of : Blocks → Text → Entries
keys_of d block = unwrap_or (lookup (bytes_eq block) d) []

-- the value of a key in a block
abbrev pub entry : Blocks → Text → Text → Option Text
entry d block key = lookup (bytes_eq key) (keys_of d block)

-- the name of the block at an index
abbrev pub name_at : Blocks → ℕ → Option Text
name_at d i = option_map (λ e. e.0) (slice_get d i)

-- the deck with a block of this name, which goes last if it is new
abbrev pub with_block : Blocks → Text → Blocks
with_block d block = insert_entry bytes_eq d block (keys_of d block)

-- the deck with the value of a key: a key that is there keeps its place, a new key goes last in its block, a new block last
abbrev pub set : Blocks → Text → Text → Text → Blocks
set d block key value = insert_entry bytes_eq d block (insert_entry bytes_eq (keys_of d block) key value)
