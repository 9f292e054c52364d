-- Settings for the worked examples.
use Rattle.std.specs.Prelude.{ℕ, ◌+◌, ℤ, pos, Bool, false, cond, None, List, [], ◌∷◌, ◌++◌, replicate}
use Rattle.morton_order.specs.declared.space.Loc.{Loc}
use Rattle.morton_order.specs.declared.space.Shape.{Shape}
use Rattle.package_fields.specs.declared.field.Field.{Field}
use Rattle.package_fields.specs.declared.flag.Flag.{Flag}
use Rattle.package_fields.specs.declared.flag.Flag.TheVariants.{Cell, Independent, FillGhost, WithFluxes, Sparse}
use Rattle.package_fields.specs.declared.flow.Flow.{Flow}
use Rattle.package_fields.specs.Flow.{no_flow}
use Rattle.problem_set.specs.Settings.{Settings}
use Rattle.mesh_settings.specs.declared.words.Mode.TheVariants.{Plain}
use Rattle.mesh_settings.specs.declared.words.FaceKind.{FaceKind}
use Rattle.mesh_settings.specs.declared.words.FaceKind.TheVariants.{Reflecting}
use Rattle.deck_entries.specs.declared.entries.Moves.{Moves}
use Rattle.deck_entries.specs.declared.entries.StartBox.{StartBox}
use Rattle.deck_entries.specs.declared.entries.StaticAt.{StaticAt}
use Rattle.mesh_rules.specs.Sums.{table}
use Rattle.mesh_rules.specs.Reaction.{kernel_of}
use Rattle.mesh_rules.specs.Mask.{blocks_with}
use Rattle.mesh_rules.specs.Run.{Outcome, last_drop, last_flow, run, running, too_many_at, too_many_at_start}

-- a lattice of roots that wraps along all axes or along none
abbrev pub roots_of : ℕ → ℕ → ℕ → ℕ → Bool → Shape
roots_of dims r1 r2 r3 wrap = record { dims = dims; root = r1 ∷ r2 ∷ r3 ∷ []; wrap = wrap ∷ wrap ∷ wrap ∷ [] }

-- all faces reflect
abbrev pub closed_faces : List FaceKind
closed_faces = replicate 6 Reflecting

-- the flags of a field that moves through faces, and of one that stays where it is; both may be sparse
abbrev pub moving : Bool → List Flag
moving sparse = Cell ∷ Independent ∷ FillGhost ∷ WithFluxes ∷ [] ++ cond sparse (Sparse ∷ []) []

abbrev pub staying : Bool → List Flag
staying sparse = Cell ∷ Independent ∷ [] ++ cond sparse (Sparse ∷ []) []

abbrev pub field : List ℕ → List Flag → Field
field label flags = record { label = label; base = label; id = None; flags = flags }

-- velocities along the three axes
abbrev pub at_speed : ℤ → ℤ → ℤ → Moves
at_speed v1 v2 v3 = record { v = v1 ∷ v2 ∷ v3 ∷ []; k = 0; order = 1; entry = replicate 6 0 }

-- one root cell that holds an amount of a field
abbrev pub cell_box : ℕ → ℕ → ℕ → ℕ → ℕ → StartBox
cell_box f x y z amount = record { field = f; lo = x ∷ y ∷ z ∷ []; hi = x ∷ y ∷ z ∷ []; amount = amount }

-- root cells in the plane of x1 and x2 that are refined to a level
abbrev pub refined : ℕ → ℕ → ℕ → ℕ → ℕ → StaticAt
refined level lo1 hi1 lo2 hi2 = record { level = level; lo = lo1 ∷ lo2 ∷ 0 ∷ []; hi = hi1 ∷ hi2 ∷ 0 ∷ [] }

-- a location
abbrev pub at : ℕ → ℕ → ℕ → ℕ → Loc
at level x y z = record { level = level; l1 = x; l2 = y; l3 = z }

-- one block of four cells in a row between faces that reflect, one stage a cycle, and no field yet
abbrev pub row : Settings
row = record {
  shape = roots_of 1 1 1 1 false;
  size = 4 ∷ 1 ∷ 1 ∷ [];
  cells = 4 ∷ 1 ∷ 1 ∷ [];
  mode = Plain;
  levels = 1;
  derefine_count = 10;
  pack_size = None;
  faces = closed_faces;
  nlim = 10;
  alloc_threshold = 0;
  dealloc_threshold = 0;
  dealloc_count = 5;
  denominator = 4;
  nstages = 1;
  refine_every = 1;
  dump_every = 1;
  fields = record { packages = []; fields = [] };
  moves = [];
  statics = [];
  boxes = [];
  reactions = [];
  criteria = [];
}

-- the same with one field that moves to the right, by one part of the denominator, and two such blocks in a row
abbrev pub moving_row : List ℕ → Bool → Settings
moving_row label sparse = record row { fields = record { packages = []; fields = field label (moving sparse) ∷ [] }; moves = at_speed (pos 1) (pos 0) (pos 0) ∷ [] }

abbrev pub two_blocks : Settings → Settings
two_blocks p = record p { shape = roots_of 1 2 1 1 false; size = 8 ∷ 1 ∷ 1 ∷ [] }

-- a problem's own run
abbrev pub run_of : Settings → ℕ → Outcome
run_of p n = run p (kernel_of p) n

-- the totals of a run that goes on, by leaf and field
abbrev pub totals_in : Outcome → List (List (List ℕ))
totals_in (running r) = r.state.mesh.totals
totals_in too_many_at_start = []
totals_in (too_many_at _ _) = []

-- its leaves, by rising key
abbrev pub leaves_in : Outcome → List Loc
leaves_in (running r) = r.state.mesh.leaves
leaves_in too_many_at_start = []
leaves_in (too_many_at _ _) = []

-- a field's flow and its drop in the last cycle
abbrev pub flow_in : ℕ → Outcome → Flow
flow_in f (running r) = last_flow r f
flow_in f too_many_at_start = no_flow
flow_in f (too_many_at _ _) = no_flow

abbrev pub drop_in : ℕ → Outcome → ℕ
drop_in f (running r) = last_drop r f
drop_in f too_many_at_start = 0
drop_in f (too_many_at _ _) = 0

-- on how many blocks it keeps a field
abbrev pub blocks_in : ℕ → Outcome → ℕ
blocks_in f (running r) = blocks_with r.state.mask f
blocks_in f too_many_at_start = 0
blocks_in f (too_many_at _ _) = 0

-- on how many blocks a field is kept after each of the cycles 0 to n
abbrev pub blocks_over : Settings → ℕ → ℕ → List ℕ
blocks_over p f n = table (n + 1) (λ cycle. blocks_in f (run_of p cycle))
