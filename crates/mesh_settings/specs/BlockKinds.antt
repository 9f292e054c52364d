-- The blocks of a deck that come in any number: kinds, names, counts.
use Rattle.std.specs.Prelude.{List, [], Result, Ok, codes}
use Rattle.input_file.specs.Texts.{Text}
use Rattle.input_file.specs.Blocks.{Blocks}
use Rattle.mesh_settings.specs.declared.words.Mode.{Mode}
use Rattle.mesh_settings.specs.declared.words.Mode.TheVariants.{Plain, Fixed, Adaptive}
use Rattle.deck_values.specs.declared.fault.ProblemFault.{ProblemFault}
use Rattle.mesh_settings.specs.declared.block_kinds.BlockNames.{BlockNames}
use Rattle.deck_values.specs.Reading.{◌>>=◌}
use Rattle.deck_values.specs.BlockNames.{names_within}
use Rattle.mesh_settings.specs.Limits.{most_statics, most_boxes, most_reactions, most_criteria}

-- static boxes are not read where nothing is refined
unfoldable pub statics : Blocks → Mode → Result (List Text) ProblemFault
statics d Plain = Ok []
statics d Fixed = names_within d (codes "static") most_statics
statics d Adaptive = names_within d (codes "static") most_statics

unfoldable pub boxes : Blocks → Result (List Text) ProblemFault
boxes d = names_within d (codes "box") most_boxes

unfoldable pub reactions : Blocks → Result (List Text) ProblemFault
reactions d = names_within d (codes "reaction") most_reactions

-- criteria are read only where the mesh adapts
unfoldable pub criteria : Blocks → Mode → Result (List Text) ProblemFault
criteria d Plain = Ok []
criteria d Fixed = Ok []
criteria d Adaptive = names_within d (codes "criterion") most_criteria

-- the names of the blocks of the four kinds that are counted, in the order of counting
unfoldable pub block_names : Blocks → Mode → Result BlockNames ProblemFault
block_names d mode = do
  s ← statics d mode
  b ← boxes d
  r ← reactions d
  c ← criteria d mode
  Ok (record { statics = s; boxes = b; reactions = r; criteria = c })
