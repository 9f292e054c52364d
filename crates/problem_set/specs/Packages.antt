-- The packages of a deck, and the registry of their fields.
use Rattle.std.specs.Prelude.{if◌then◌else◌, ◌++◌, List, [], ◌∷◌, map, filter, fold, Option, Some, None, Result, Ok, Err, codes}
use Rattle.std.specs.List.{flat_map}
use Rattle.std.specs.Str.{bytes_eq}
use Rattle.input_file.specs.Texts.{Text}
use Rattle.input_file.specs.Blocks.{Blocks}
use Rattle.package_fields.specs.declared.field.Package.{Package}
use Rattle.package_fields.specs.declared.fault.FieldFault.{FieldFault}
use Rattle.package_fields.specs.Fields.{Registered, is_among}
use Rattle.package_fields.specs.Registered.{package_fault, with_package}
use Rattle.deck_values.specs.declared.fault.ProblemFault.{ProblemFault}
use Rattle.deck_values.specs.declared.fault.ProblemFault.TheVariants.{Fields}
use Rattle.deck_entries.specs.declared.entries.Moves.{Moves}
use Rattle.deck_entries.specs.declared.field_blocks.FieldBlock.{FieldBlock}
use Rattle.problem_set.specs.declared.packages.FieldTable.{FieldTable}
use Rattle.deck_values.specs.Reading.{◌>>=◌, each}
use Rattle.deck_values.specs.BlockNames.{names_of}
use Rattle.deck_entries.specs.FieldBlocks.{field_block, fields_of}

-- the names and one more, unless it is among them
abbrev pub with_name : List Text → Text → List Text
with_name names name = if is_among names name then names else names ++ name ∷ []

-- the names without repetition, in the order in which each first comes
abbrev pub first_named : List Text → List Text
first_named names = fold with_name [] names

-- the blocks of a package, in deck order
abbrev pub blocks_of : List FieldBlock → Text → List FieldBlock
blocks_of blocks package_name = filter (λ b. bytes_eq package_name b.package_name) blocks

-- the fields of a package, in deck order
abbrev pub package_of : List FieldBlock → Text → Package
package_of blocks package_name = record { name = package_name; fields = flat_map fields_of (blocks_of blocks package_name) }

-- how each field of a block moves
abbrev pub moves_of : FieldBlock → List Moves
moves_of b = map (λ f. b.moves) (fields_of b)

-- how the fields of a package move
abbrev pub package_moves : List FieldBlock → Text → List Moves
package_moves blocks package_name = flat_map moves_of (blocks_of blocks package_name)

-- a fault of a field, if there is one, is that of the reading
abbrev pub unless : {A : Type 0} → Option FieldFault → A → Result A ProblemFault
unless None x = Ok x
unless (Some fault) x = Err (Fields fault)

-- the registry with a package added, or the first fault of that
abbrev pub with_added : Registered → Package → Result Registered ProblemFault
with_added r p = unless (package_fault r p) (with_package r p)

-- the registry with the package of an package_name, unless it is there
abbrev pub with_package_once : List FieldBlock → Registered → Text → Result Registered ProblemFault
with_package_once blocks r package_name = if is_among r.packages package_name then Ok r else with_added r (package_of blocks package_name)

-- how the fields of an package_name move, unless its package is there
abbrev pub moves_once : List FieldBlock → Registered → Text → List Moves
moves_once blocks r package_name = if is_among r.packages package_name then [] else package_moves blocks package_name

-- the registry with packages added in order, or the first fault
abbrev pub all_added : Registered → List Package → Result Registered ProblemFault
all_added r [] = Ok r
all_added r (p ∷ ps) = do
  s ← with_added r p
  all_added s ps

-- the names of the packages, in the order in which field blocks first name them
abbrev pub package_names : List FieldBlock → List Text
package_names blocks = first_named (map (λ b. b.package_name) blocks)

-- the registry of all packages, and how each field moves, by its number
unfoldable pub registered : List FieldBlock → Result FieldTable ProblemFault
registered blocks = do
  r ← all_added (record { packages = []; fields = [] }) (map (package_of blocks) (package_names blocks))
  Ok (record { fields = r; moves = flat_map (package_moves blocks) (package_names blocks) })

-- the fields of a deck: first each field block is read, then the packages are added
unfoldable pub fields : Blocks → Result FieldTable ProblemFault
fields d = do
  blocks ← each (field_block d) (names_of d (codes "field"))
  registered blocks
