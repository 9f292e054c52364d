-- The problem that a deck gives, or the first fault.
use Rattle.std.specs.Prelude.{◌-◌, nat_le, ℕ, Result, Ok}
use Rattle.std.specs.List.{zip}
use Rattle.input_file.specs.Blocks.{Blocks}
use Rattle.deck_values.specs.declared.fault.ProblemFault.{ProblemFault}
use Rattle.deck_values.specs.declared.fault.ProblemFault.TheVariants.{Bound}
use Rattle.mesh_settings.specs.declared.mesh.Mesh.{Mesh}
use Rattle.mesh_settings.specs.declared.grid.Grid.{Grid}
use Rattle.mesh_settings.specs.declared.stepping.Stepping.{Stepping}
use Rattle.problem_set.specs.declared.repeated_blocks.RepeatedBlocks.{RepeatedBlocks}
use Rattle.deck_values.specs.Reading.{◌>>=◌, only_if}
use Rattle.problem_set.specs.Settings.{Settings}
use Rattle.mesh_settings.specs.Mesh.{mesh_keys}
use Rattle.mesh_settings.specs.Grid.{grid}
use Rattle.mesh_settings.specs.Stepping.{stepping}
use Rattle.problem_set.specs.RepeatedBlocks.{repeated_blocks}
use Rattle.problem_set.specs.Fitting.{rates_fit}
use Rattle.problem_set.specs.Rates.{bound}
use Rattle.mesh_settings.specs.Limits.{greatest_total}

-- the settings that the sections of a deck come to
abbrev pub settings : Mesh → Grid → Stepping → RepeatedBlocks → Settings
settings m g s c = record {
  shape = g.shape;
  size = m.size;
  cells = g.cells;
  mode = m.refining.mode;
  levels = m.refining.levels;
  derefine_count = m.refining.derefine_count;
  pack_size = m.refining.pack_size;
  faces = m.faces;
  nlim = s.nlim;
  alloc_threshold = s.sparsity.alloc_threshold;
  dealloc_threshold = s.sparsity.dealloc_threshold;
  dealloc_count = s.sparsity.dealloc_count;
  denominator = s.cycle.denominator;
  nstages = s.cycle.nstages;
  refine_every = s.cycle.refine_every;
  dump_every = s.cycle.dump_every;
  fields = c.field_table.fields;
  moves = c.field_table.moves;
  statics = c.counted.statics;
  boxes = c.counted.boxes;
  reactions = c.counted.reactions;
  criteria = c.counted.criteria;
}

-- all that a deck says, part by part
unfoldable pub settings_read : Blocks → Result Settings ProblemFault
settings_read d = do
  m ← mesh_keys d
  g ← grid d m.size m.faces
  s ← stepping d
  c ← repeated_blocks d m.size m.refining.mode m.refining.levels
  Ok (settings m g s c)

-- the opening sum of all totals, and all that may come in during the run
abbrev pub bound_of : Settings → ℕ
bound_of s = bound s.shape.dims s.size s.faces s.nlim s.nstages s.fields.fields s.moves s.boxes

-- whether the rates of all fields and then the bound fit
unfoldable pub fitting : Settings → Result (Unit {0}) ProblemFault
fitting s = do
  r ← rates_fit s.shape.dims (s.levels - 1) s.denominator (zip s.fields.fields s.moves)
  only_if (nat_le (bound_of s) greatest_total) tt (Bound (bound_of s))

-- the problem of a deck: all that it says, where that fits
unfoldable pub problem : Blocks → Result Settings ProblemFault
problem d = do
  s ← settings_read d
  f ← fitting s
  Ok s
