-- What holds of the parts of every problem.
use Rattle.std.specs.Prelude.{◌≡◌, ◌≤◌, ◌<◌, ◌*◌, ◌%◌, ◌^◌, ℕ, List, length, slice_index}
use Rattle.std.specs.List.{slice_index_or}
use Rattle.std.specs.Option.{ForSome}
use Rattle.mesh_settings.specs.declared.words.FaceKind.{FaceKind}
use Rattle.mesh_settings.specs.declared.words.FaceKind.TheVariants.{Periodic}
use Rattle.mesh_settings.specs.declared.mesh.Refining.{Refining}
use Rattle.mesh_settings.specs.declared.stepping.Sparsity.{Sparsity}
use Rattle.mesh_settings.specs.declared.stepping.CycleSettings.{CycleSettings}
use Rattle.mesh_settings.specs.declared.stepping.Stepping.{Stepping}
use Rattle.morton_order.specs.declared.space.Shape.{Shape}
use Rattle.morton_order.specs.Space.{IsShape}
use Rattle.mesh_settings.specs.Mesh.{is_periodic, cells_of}
use Rattle.mesh_settings.specs.Grid.{dims_of}
use Rattle.mesh_settings.specs.Limits.{greatest_size, least_cells, greatest_cells, greatest_roots, greatest_levels, greatest_derefine_count, greatest_pack, greatest_cycles, greatest_stages, greatest_factor, greatest_total}

-- the cells of a mesh along each axis: 4 to 4,194,304, or 1 along x2 and x3; 1 along x3 where it is 1 along x2
pub record IsSize (size : List ℕ) : Type 0 where
  pub three : length size ≡ 3
  pub least1 : least_cells ≤ slice_index size 0
  pub most1 : slice_index size 0 ≤ greatest_size
  pub least2 : 1 ≤ slice_index size 1
  pub used2 : 2 ≤ slice_index size 1 → least_cells ≤ slice_index size 1
  pub most2 : slice_index size 1 ≤ greatest_size
  pub least3 : 1 ≤ slice_index size 2
  pub used3 : 2 ≤ slice_index size 2 → least_cells ≤ slice_index size 2
  pub most3 : slice_index size 2 ≤ greatest_size
  pub flat3 : slice_index size 1 ≡ 1 → slice_index size 2 ≡ 1

-- the numbers that say how a mesh is refined
pub record IsRefining (r : Refining) : Type 0 where
  pub least_levels : 1 ≤ r.levels
  pub most_levels : r.levels ≤ greatest_levels
  pub least_count : 1 ≤ r.derefine_count
  pub most_count : r.derefine_count ≤ greatest_derefine_count
  pub least_pack : ForSome r.pack_size (λ n. 1 ≤ n)
  pub most_pack : ForSome r.pack_size (λ n. n ≤ greatest_pack)

-- the low and the high face of x1, of x2 and of x3; of an axis both or neither are periodic
pub record IsFaces (faces : List FaceKind) : Type 0 where
  pub six : length faces ≡ 6
  pub alike1 : is_periodic (slice_index_or faces 0 Periodic) ≡ is_periodic (slice_index_or faces 1 Periodic)
  pub alike2 : is_periodic (slice_index_or faces 2 Periodic) ≡ is_periodic (slice_index_or faces 3 Periodic)
  pub alike3 : is_periodic (slice_index_or faces 4 Periodic) ≡ is_periodic (slice_index_or faces 5 Periodic)

-- the cells of a block along an axis: a divisor of the cells of the mesh; an even number from 4 to 64
-- where the mesh has more than one layer of cells
pub record IsCellsAlong (size cells : ℕ) : Type 0 where
  pub least : 1 ≤ cells
  pub most : cells ≤ greatest_cells
  pub divides : size % cells ≡ 0
  pub wide : 2 ≤ size → least_cells ≤ cells
  pub even : 2 ≤ size → cells % 2 ≡ 0
  pub thin : size ≡ 1 → cells ≡ 1

-- the cells of a block along each axis
pub record IsCells (size cells : List ℕ) : Type 0 where
  pub three : length cells ≡ 3
  pub along1 : IsCellsAlong (slice_index size 0) (slice_index cells 0)
  pub along2 : IsCellsAlong (slice_index size 1) (slice_index cells 1)
  pub along3 : IsCellsAlong (slice_index size 2) (slice_index cells 2)

-- the root blocks cover the mesh, and there are at most 65,536 of them, so of at most 2^34 cells; along each axis
-- in use a block has an even number of cells, at least 4, and along every other axis one layer of them
pub record IsGrid (size cells : List ℕ) (shape : Shape) : Type 0 where
  pub cells_sound : IsCells size cells
  pub shape_sound : IsShape shape
  pub axes : shape.dims ≡ dims_of size
  pub covers1 : slice_index shape.root 0 * slice_index cells 0 ≡ slice_index size 0
  pub covers2 : slice_index shape.root 1 * slice_index cells 1 ≡ slice_index size 1
  pub covers3 : slice_index shape.root 2 * slice_index cells 2 ≡ slice_index size 2
  pub few : slice_index shape.root 0 * slice_index shape.root 1 * slice_index shape.root 2 ≤ greatest_roots
  pub few_cells : cells_of size ≤ 2 ^ 34
  pub wide : (axis : ℕ) → axis < shape.dims → least_cells ≤ slice_index cells axis
  pub even : (axis : ℕ) → axis < shape.dims → slice_index cells axis % 2 ≡ 0
  pub flat : (axis : ℕ) → shape.dims ≤ axis → axis < 3 → slice_index cells axis ≡ 1

-- when sparse fields are allocated and freed
pub record IsSparsity (s : Sparsity) : Type 0 where
  pub most_alloc : s.alloc_threshold ≤ greatest_total
  pub most_dealloc : s.dealloc_threshold ≤ greatest_total
  pub least_count : 1 ≤ s.dealloc_count
  pub most_count : s.dealloc_count ≤ greatest_cycles

-- the numbers of a cycle
pub record IsCycleSettings (p : CycleSettings) : Type 0 where
  pub least_denominator : 1 ≤ p.denominator
  pub most_denominator : p.denominator ≤ greatest_factor
  pub least_stages : 1 ≤ p.nstages
  pub most_stages : p.nstages ≤ greatest_stages
  pub least_refine : 1 ≤ p.refine_every
  pub most_refine : p.refine_every ≤ greatest_cycles
  pub least_dump : 1 ≤ p.dump_every
  pub most_dump : p.dump_every ≤ greatest_cycles

-- the numbers of time, of sparse fields and of a cycle
pub record IsStepping (s : Stepping) : Type 0 where
  pub most_cycles : s.nlim ≤ greatest_cycles
  pub sparsity_sound : IsSparsity s.sparsity
  pub cycle_sound : IsCycleSettings s.cycle
