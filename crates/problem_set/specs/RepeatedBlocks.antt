-- What the blocks of a deck that come in any number say, all kinds together.
use Rattle.std.specs.Prelude.{ℕ, List, Result, Ok}
use Rattle.input_file.specs.Blocks.{Blocks}
use Rattle.deck_values.specs.declared.fault.ProblemFault.{ProblemFault}
use Rattle.mesh_settings.specs.declared.words.Mode.{Mode}
use Rattle.package_fields.specs.declared.field.Field.{Field}
use Rattle.mesh_settings.specs.declared.block_kinds.BlockNames.{BlockNames}
use Rattle.problem_set.specs.declared.repeated_blocks.CountedBlocks.{CountedBlocks}
use Rattle.problem_set.specs.declared.repeated_blocks.RepeatedBlocks.{RepeatedBlocks}
use Rattle.deck_values.specs.Reading.{◌>>=◌, each}
use Rattle.mesh_settings.specs.BlockKinds.{block_names}
use Rattle.problem_set.specs.Packages.{fields}
use Rattle.deck_entries.specs.EntryReaders.{static_at, start_box, reaction, criterion}

-- the blocks of the four kinds that are counted, kind by kind
unfoldable pub counted_blocks : Blocks → List ℕ → ℕ → List Field → BlockNames → Result CountedBlocks ProblemFault
counted_blocks d size levels fs names = do
  s ← each (static_at d size levels) names.statics
  b ← each (start_box d size fs) names.boxes
  r ← each (reaction d fs) names.reactions
  c ← each (criterion d levels fs) names.criteria
  Ok (record { statics = s; boxes = b; reactions = r; criteria = c })

-- the counts, then the fields, then the other kinds
unfoldable pub repeated_blocks : Blocks → List ℕ → Mode → ℕ → Result RepeatedBlocks ProblemFault
repeated_blocks d size mode levels = do
  names ← block_names d mode
  f ← fields d
  e ← counted_blocks d size levels f.fields.fields names
  Ok (record { field_table = f; counted = e })
