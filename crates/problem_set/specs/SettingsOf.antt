-- A problem as plain data.
use Rattle.problem_set.specs.declared.problem.Problem.{Problem}
use Rattle.problem_set.specs.declared.deck_sections.DeckSections.{DeckSections}
use Rattle.problem_set.specs.Settings.{Settings}
use Rattle.problem_set.specs.Problems.{settings}

-- what the sections come to
abbrev pub sections_settings : DeckSections → Settings
sections_settings p = settings p.mesh p.grid p.stepping p.repeated

-- what a problem says
abbrev pub settings_of : Problem → Settings
settings_of p = record {
  shape = p.shape;
  size = p.size;
  cells = p.cells;
  mode = p.mode;
  levels = p.levels;
  derefine_count = p.derefine_count;
  pack_size = p.pack_size;
  faces = p.faces;
  nlim = p.nlim;
  alloc_threshold = p.alloc_threshold;
  dealloc_threshold = p.dealloc_threshold;
  dealloc_count = p.dealloc_count;
  denominator = p.denominator;
  nstages = p.nstages;
  refine_every = p.refine_every;
  dump_every = p.dump_every;
  fields = p.fields;
  moves = p.moves;
  statics = p.statics;
  boxes = p.boxes;
  reactions = p.reactions;
  criteria = p.criteria;
}
