-- The cells of a block, and what lies across their sides.
use Rattle.std.proofs.Common.{◌≡◌, ℕ, zero, suc, ◌+◌, ◌*◌, ◌^◌, ◌<◌, Bool, true, false, not, Option, Some, None, List, refl, arith, ap, ◌∙◌, slice_index}
use Rattle.std.specs.Option.{option_map}
use Rattle.std.proofs.lemmas.Nat.{div-mul-add, mul-add-lt}
use Rattle.morton_order.specs.declared.space.Loc.{Loc}
use Rattle.morton_order.specs.Space.{IsIn, axis_of, blocks_along, factor, root_along, wraps}
use Rattle.morton_order.specs.Neighbours.{across, moved, step}
use Rattle.morton_order.proofs.Touching.{same_as}
use Rattle.mesh_rules.specs.Mesh.{IsMesh, Mesh, block_of, cell_lattice, cells_along}
use Rattle.mesh_rules.specs.Faces.{cell_across}
use Rattle.block_layout.specs.Indices.{IsWithin, with_along}
use Rattle.block_geometry.specs.Blocks.{cell_in, end_of}
use Rattle.block_geometry.specs.Laws.{CellsOfBlocks}
use Rattle.block_geometry.proofs.Steps.{down_inside, step_beyond, up_inside}

-- an index along an axis
pub within_along : (n i : List ℕ) (axis : ℕ) → IsWithin n i → axis < 3 → slice_index i axis < slice_index n axis
within_along n i zero w h = w.along1
within_along n i (suc zero) w h = w.along2
within_along n i (suc (suc zero)) w h = w.along3
within_along n i (suc (suc (suc a))) w h = absurd (omega arith)

-- a block along an axis
pub block_along : (m : Mesh) (l : Loc) (axis : ℕ) → IsIn m.shape l → axis < 3 → axis_of l axis < blocks_along m.shape axis l.level
block_along m l zero inside h = inside.within1
block_along m l (suc zero) inside h = inside.within2
block_along m l (suc (suc zero)) inside h = inside.within3
block_along m l (suc (suc (suc a))) inside h = absurd (omega arith)

-- the cells along an axis are those of the blocks along it
turned : (r n p : ℕ) → r * n * p ≡ r * p * n
turned r n p = omega arith

pub lattice_along : (m : Mesh) (axis level : ℕ) → axis < 3 → blocks_along (cell_lattice m) axis level ≡ blocks_along m.shape axis level * cells_along m axis
lattice_along m zero level h = turned (root_along m.shape 0) (cells_along m 0) (factor m.shape.dims 0 ^ level)
lattice_along m (suc zero) level h = turned (root_along m.shape 1) (cells_along m 1) (factor m.shape.dims 1 ^ level)
lattice_along m (suc (suc zero)) level h = turned (root_along m.shape 2) (cells_along m 2) (factor m.shape.dims 2 ^ level)
lattice_along m (suc (suc (suc a))) level h = absurd (omega arith)

-- a cell's coordinate along an axis, and the cell at another one
pub axis_of_cell : (m : Mesh) (l : Loc) (i : List ℕ) (axis : ℕ) → axis < 3 → axis_of (cell_in m l i) axis ≡ axis_of l axis * cells_along m axis + slice_index i axis
axis_of_cell m l i zero h = refl
axis_of_cell m l i (suc zero) h = refl
axis_of_cell m l i (suc (suc zero)) h = refl
axis_of_cell m l i (suc (suc (suc a))) h = absurd (omega arith)

pub cell_moved : (m : Mesh) (l : Loc) (i : List ℕ) (axis y x : ℕ) → axis < 3 → moved (cell_in m l i) axis (y * cells_along m axis + x) ≡ cell_in m (moved l axis y) (with_along axis x i)
cell_moved m l i zero y x h = refl
cell_moved m l i (suc zero) y x h = refl
cell_moved m l i (suc (suc zero)) y x h = refl
cell_moved m l i (suc (suc (suc a))) y x h = absurd (omega arith)

moved_home : (l : Loc) (axis : ℕ) → moved l axis (axis_of l axis) ≡ l
moved_home l zero = refl
moved_home l (suc zero) = refl
moved_home l (suc (suc a)) = refl

-- the step from a cell, by its block and its index
stepped : (m : Mesh) (l : Loc) (i : List ℕ) (axis : ℕ) (high : Bool) → axis < 3 →
    cell_across m (cell_in m l i) axis high ≡ option_map (moved (cell_in m l i) axis) (step (blocks_along m.shape axis l.level * cells_along m axis) (wraps m.shape axis) high (axis_of l axis * cells_along m axis + slice_index i axis))
stepped m l i axis high h =
    ap (λ n. option_map (moved (cell_in m l i) axis) (step n (wraps m.shape axis) high (axis_of (cell_in m l i) axis))) (lattice_along m axis l.level h)
    ∙ ap (λ x. option_map (moved (cell_in m l i) axis) (step (blocks_along m.shape axis l.level * cells_along m axis) (wraps m.shape axis) high x)) (axis_of_cell m l i axis h)

home : (m : Mesh) (l : Loc) (i : List ℕ) (axis x : ℕ) → axis < 3 → moved (cell_in m l i) axis (axis_of l axis * cells_along m axis + x) ≡ cell_in m l (with_along axis x i)
home m l i axis x h = cell_moved m l i axis (axis_of l axis) x h ∙ ap (λ (v : Loc). cell_in m v (with_along axis x i)) (moved_home l axis)

pub across_up : (m : Mesh) (l : Loc) (i : List ℕ) (axis : ℕ) → IsIn m.shape l → axis < 3 → slice_index i axis + 1 < cells_along m axis →
    cell_across m (cell_in m l i) axis true ≡ Some (cell_in m l (with_along axis (slice_index i axis + 1) i))
across_up m l i axis inside h room =
    stepped m l i axis true h
    ∙ ap (option_map (moved (cell_in m l i) axis)) (up_inside (blocks_along m.shape axis l.level) (cells_along m axis) (wraps m.shape axis) (axis_of l axis) (slice_index i axis) (block_along m l axis inside h) room)
    ∙ ap Some (home m l i axis (slice_index i axis + 1) h)

pub across_down : (m : Mesh) (l : Loc) (i : List ℕ) (axis x : ℕ) → axis < 3 → slice_index i axis ≡ x + 1 → cell_across m (cell_in m l i) axis false ≡ Some (cell_in m l (with_along axis x i))
across_down m l i axis x h at =
    stepped m l i axis false h
    ∙ ap (λ t. option_map (moved (cell_in m l i) axis) (step (blocks_along m.shape axis l.level * cells_along m axis) (wraps m.shape axis) false (axis_of l axis * cells_along m axis + t))) at
    ∙ ap (option_map (moved (cell_in m l i) axis)) (down_inside (blocks_along m.shape axis l.level) (cells_along m axis) (wraps m.shape axis) (axis_of l axis) x)
    ∙ ap Some (home m l i axis x h)

pub across_beyond : (m : Mesh) (l : Loc) (i : List ℕ) (axis : ℕ) (high : Bool) → IsMesh m → IsIn m.shape l → axis < 3 → slice_index i axis ≡ end_of (cells_along m axis) high →
    cell_across m (cell_in m l i) axis high ≡ option_map (λ o. cell_in m o (with_along axis (end_of (cells_along m axis) (not high)) i)) (across m.shape l axis high)
across_beyond m l i axis high mesh inside h at =
    let n : ℕ = cells_along m axis in
    let r : ℕ = blocks_along m.shape axis l.level in
    stepped m l i axis high h
    ∙ ap (λ t. option_map (moved (cell_in m l i) axis) (step (r * n) (wraps m.shape axis) high (axis_of l axis * n + t))) at
    ∙ ap (option_map (moved (cell_in m l i) axis)) (step_beyond r n (wraps m.shape axis) high (axis_of l axis) (block_along m l axis inside h) (mesh.some_cells axis h))
    ∙ turned_round (step r (wraps m.shape axis) high (axis_of l axis))
  where
    turned_round : (o : Option ℕ) → option_map (moved (cell_in m l i) axis) (option_map (λ y. y * cells_along m axis + end_of (cells_along m axis) (not high)) o) ≡ option_map (λ b. cell_in m b (with_along axis (end_of (cells_along m axis) (not high)) i)) (option_map (moved l axis) o)
    turned_round None = refl
    turned_round (Some y) = ap Some (cell_moved m l i axis y (end_of (cells_along m axis) (not high)) h)

-- the block that a cell lies in
pub block_of_cell_in : (m : Mesh) (l : Loc) (i : List ℕ) → IsWithin m.cells i → block_of m (cell_in m l i) ≡ l
block_of_cell_in m l i w = same_as l (block_of m (cell_in m l i)) refl
    (div-mul-add l.l1 (cells_along m 0) (slice_index i 0) w.along1)
    (div-mul-add l.l2 (cells_along m 1) (slice_index i 1) w.along2)
    (div-mul-add l.l3 (cells_along m 2) (slice_index i 2) w.along3)

below_all : (r n p b u : ℕ) → b < r * p → u < n → b * n + u < r * n * p
below_all r n p b u h k = let e : b * n + u < n * (r * p) = mul-add-lt b n u (r * p) h k in omega arith

pub cell_inside : (m : Mesh) (l : Loc) (i : List ℕ) → IsIn m.shape l → IsWithin m.cells i → IsIn (cell_lattice m) (cell_in m l i)
cell_inside m l i inside w = record {
  level = inside.level;
  within1 = below_all (root_along m.shape 0) (cells_along m 0) (factor m.shape.dims 0 ^ l.level) l.l1 (slice_index i 0) inside.within1 w.along1;
  within2 = below_all (root_along m.shape 1) (cells_along m 1) (factor m.shape.dims 1 ^ l.level) l.l2 (slice_index i 1) inside.within2 w.along2;
  within3 = below_all (root_along m.shape 2) (cells_along m 2) (factor m.shape.dims 2 ^ l.level) l.l3 (slice_index i 2) inside.within3 w.along3;
}

pub cells_of_blocks : CellsOfBlocks
cells_of_blocks = record {
  lies = λ m l i mesh inside w. record { block = block_of_cell_in m l i w; inside = cell_inside m l i inside w };
  crosses = λ m l i axis mesh inside w h. record {
    up = across_up m l i axis inside h;
    down = λ x at. across_down m l i axis x h at;
    beyond = λ high at. across_beyond m l i axis high mesh inside h at;
  };
}
