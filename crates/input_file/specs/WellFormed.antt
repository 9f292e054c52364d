-- What holds of the blocks of every deck.
use Rattle.std.specs.Prelude.{◌≡◌, false, List, [], ◌∷◌, IsTrue}
use Rattle.std.specs.List.{list_any}
use Rattle.std.specs.Str.{bytes_eq}
use Rattle.input_file.specs.Texts.{Text, is_block_name, is_key, is_value}
use Rattle.input_file.specs.Blocks.{Entries, Blocks}

-- the entries are well formed, and no key is among those before or stands twice
abbrev pub AreKeysAfter : List Text → Entries → Type 0
AreKeysAfter before [] = Unit {0}
AreKeysAfter before (e ∷ es) = IsTrue (is_key e.0) × IsTrue (is_value e.1) × (list_any (bytes_eq e.0) before ≡ false) × AreKeysAfter (e.0 ∷ before) es

-- the keys of a block are well formed and distinct
abbrev pub AreKeys : Entries → Type 0
AreKeys es = AreKeysAfter [] es

-- the blocks are well formed, and no name is among those before or stands twice
abbrev pub AreBlocksAfter : List Text → Blocks → Type 0
AreBlocksAfter before [] = Unit {0}
AreBlocksAfter before (e ∷ es) = IsTrue (is_block_name e.0) × AreKeys e.1 × (list_any (bytes_eq e.0) before ≡ false) × AreBlocksAfter (e.0 ∷ before) es

-- the blocks of a deck are well formed and distinct
abbrev pub AreBlocks : Blocks → Type 0
AreBlocks d = AreBlocksAfter [] d
