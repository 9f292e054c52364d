-- What is seen in a ghost layer is the look in a cell of the block across.
use Rattle.std.proofs.Common.{◌≡◌, ℕ, zero, suc, ◌+◌, ◌-◌, ◌<◌, ◌≤◌, Bool, true, false, not, Option, Some, None, List, refl, arith, ap, subst, ◌∙◌, slice_index}
use Rattle.std.specs.Prelude.{option_and_then}
use Rattle.std.specs.Option.{option_map}
use Rattle.morton_order.specs.declared.space.Loc.{Loc}
use Rattle.morton_order.specs.Space.{IsIn}
use Rattle.morton_order.specs.Neighbours.{across}
use Rattle.morton_order.proofs.Crossing.{across-touches}
use Rattle.mesh_rules.specs.Mesh.{cells_along}
use Rattle.mesh_rules.specs.Look.{look}
use Rattle.mesh_rules.specs.Fields.{outside}
use Rattle.mesh_rules.specs.Faces.{cell_across, seen_in}
use Rattle.block_layout.specs.Sizes.{IsCellCount, IsLayout}
use Rattle.block_layout.specs.Indices.{IsWithin, with_along}
use Rattle.block_geometry.specs.Blocks.{FieldBlock, IsFieldBlock, cell_in, end_of}
use Rattle.block_geometry.proofs.Cells.{across_beyond, across_down, across_up}
use Rattle.block_geometry.proofs.Rows.{along_with, within_with}
use Rattle.block_geometry.proofs.Seen.{in_mesh, same_cells, three_axes}
use Rattle.ghost_laws.specs.Layers.{across_index, layer_along, seen_in_layer}
use Rattle.ghost_laws.specs.Given.{IsBeside}
use Rattle.ghost_laws.specs.Seen.{OutsideSeen}

-- the sizes of the mesh's blocks
pub sizes : (b : FieldBlock) → IsFieldBlock b → IsLayout b.mesh.shape.dims b.mesh.cells
sizes b sound = subst (λ d. IsLayout d b.mesh.cells) sound.layout.dims (subst (λ (n : List ℕ). IsLayout b.layout.dims n) sound.layout.cells b.layout.sound)

pub count_at : (dims axis : ℕ) (n : List ℕ) → IsLayout dims n → axis < 3 → IsCellCount dims axis (slice_index n axis)
count_at dims zero n l h = l.cells1
count_at dims (suc zero) n l h = l.cells2
count_at dims (suc (suc zero)) n l h = l.cells3
count_at dims (suc (suc (suc a))) n l h = absurd (omega arith)

pub used_in : (b : FieldBlock) (axis : ℕ) → IsFieldBlock b → axis < b.layout.dims → axis < b.mesh.shape.dims
used_in b axis sound used = subst (λ d. axis < d) sound.layout.dims used

pub wide : (b : FieldBlock) (axis : ℕ) → IsFieldBlock b → axis < b.layout.dims → 4 ≤ cells_along b.mesh axis
wide b axis sound used = (count_at b.mesh.shape.dims axis b.mesh.cells (sizes b sound) (three_axes b axis sound used)).wide (used_in b axis sound used)

-- an index at two numbers along one axis
pub with_twice : (axis x y : ℕ) (i : List ℕ) → axis < 3 → with_along axis x (with_along axis y i) ≡ with_along axis x i
with_twice zero x y i h = refl
with_twice (suc zero) x y i h = refl
with_twice (suc (suc zero)) x y i h = refl
with_twice (suc (suc (suc a))) x y i h = absurd (omega arith)

-- beside a face of the domain nothing is across
pub outside_seen : OutsideSeen
outside_seen b axis high i layer beside none = by layer
  where
    h : axis < 3
    h = three_axes b axis beside.sound beside.used

    at : slice_index i axis ≡ end_of (cells_along b.mesh axis) high
    at = beside.at ∙ ap (λ n. end_of n high) (same_cells b axis beside.sound)

    nothing : cell_across b.mesh (cell_in b.mesh b.leaf i) axis high ≡ None
    nothing = across_beyond b.mesh b.leaf i axis high beside.sound.mesh beside.sound.leaf.inside h at
        ∙ ap (option_map (λ o. cell_in b.mesh o (with_along axis (end_of (cells_along b.mesh axis) (not high)) i))) none

    by : (k : ℕ) → seen_in_layer b i axis high k ≡ outside b.settings b.field axis high b.leaf.level
    by zero = ap (seen_in b.settings b.mesh b.field axis high b.leaf.level) nothing
    by (suc k) = ap (λ (o : Option Loc). seen_in b.settings b.mesh b.field axis high b.leaf.level (option_and_then (λ c. cell_across b.mesh c axis high) o)) nothing

-- the first cell across, and the second
end_is : (n : ℕ) (high : Bool) → end_of n (not high) ≡ layer_along n high 0
end_is n true = refl
end_is n false = omega arith

pub first_across : (b : FieldBlock) (axis : ℕ) (high : Bool) (o : Loc) (i : List ℕ) → IsBeside b axis high i → across b.mesh.shape b.leaf axis high ≡ Some o →
    cell_across b.mesh (cell_in b.mesh b.leaf i) axis high ≡ Some (cell_in b.mesh o (across_index b.mesh axis high 0 i))
first_across b axis high o i beside meets =
    let h = three_axes b axis beside.sound beside.used in
    let n : ℕ = cells_along b.mesh axis in
    across_beyond b.mesh b.leaf i axis high beside.sound.mesh beside.sound.leaf.inside h (beside.at ∙ ap (λ k. end_of k high) (same_cells b axis beside.sound))
    ∙ ap (option_map (λ x. cell_in b.mesh x (with_along axis (end_of n (not high)) i))) meets
    ∙ ap (λ e. Some (cell_in b.mesh o (with_along axis e i))) (end_is n high)

pub inside_across : (b : FieldBlock) (axis : ℕ) (high : Bool) (o : Loc) (i : List ℕ) → IsBeside b axis high i → across b.mesh.shape b.leaf axis high ≡ Some o → IsIn b.mesh.shape o
inside_across b axis high o i beside meets = (across-touches b.mesh.shape b.leaf o axis high beside.sound.leaf.inside (three_axes b axis beside.sound beside.used) meets).inside

second_across : (b : FieldBlock) (axis : ℕ) (high : Bool) (o : Loc) (i : List ℕ) → IsBeside b axis high i → across b.mesh.shape b.leaf axis high ≡ Some o →
    cell_across b.mesh (cell_in b.mesh o (across_index b.mesh axis high 0 i)) axis high ≡ Some (cell_in b.mesh o (across_index b.mesh axis high 1 i))
second_across b axis true o i beside meets =
    let h = three_axes b axis beside.sound beside.used in
    let n : ℕ = cells_along b.mesh axis in
    let far = wide b axis beside.sound beside.used in
    let j : List ℕ = with_along axis 0 i in
    let at : slice_index j axis ≡ 0 = along_with axis 0 i h in
    across_up b.mesh o j axis (inside_across b axis true o i beside meets) h (omega arith)
    ∙ ap (λ x. Some (cell_in b.mesh o (with_along axis (x + 1) j))) at
    ∙ ap (λ (v : List ℕ). Some (cell_in b.mesh o v)) (with_twice axis 1 0 i h)
second_across b axis false o i beside meets =
    let h = three_axes b axis beside.sound beside.used in
    let n : ℕ = cells_along b.mesh axis in
    let far = wide b axis beside.sound beside.used in
    let j : List ℕ = with_along axis (n - 1 - 0) i in
    let at : slice_index j axis ≡ n - 1 - 0 = along_with axis (n - 1 - 0) i h in
    across_down b.mesh o j axis (n - 1 - 1) h (at ∙ omega arith)
    ∙ ap (λ (v : List ℕ). Some (cell_in b.mesh o v)) (with_twice axis (n - 1 - 1) (n - 1 - 0) i h)

pub layer_look : (b : FieldBlock) (axis : ℕ) (high : Bool) (o : Loc) (i : List ℕ) (layer : ℕ) → IsBeside b axis high i → layer < 2 → across b.mesh.shape b.leaf axis high ≡ Some o →
    seen_in_layer b i axis high layer ≡ look b.mesh b.field (cell_in b.mesh o (across_index b.mesh axis high layer i))
layer_look b axis high o i zero beside few meets = ap (seen_in b.settings b.mesh b.field axis high b.leaf.level) (first_across b axis high o i beside meets)
layer_look b axis high o i (suc zero) beside few meets =
    ap (λ (c : Option Loc). seen_in b.settings b.mesh b.field axis high b.leaf.level (option_and_then (λ x. cell_across b.mesh x axis high) c)) (first_across b axis high o i beside meets)
    ∙ ap (seen_in b.settings b.mesh b.field axis high b.leaf.level) (second_across b axis high o i beside meets)
layer_look b axis high o i (suc (suc k)) beside few meets = absurd (omega arith)

-- the cell of a layer is one of the block's
layer_below : (n : ℕ) (high : Bool) (layer : ℕ) → layer < 2 → 4 ≤ n → layer_along n high layer < n
layer_below n true layer h k = omega arith
layer_below n false layer h k = omega arith

pub within_across : (b : FieldBlock) (axis : ℕ) (high : Bool) (i : List ℕ) (layer : ℕ) → IsBeside b axis high i → layer < 2 → IsWithin b.mesh.cells (across_index b.mesh axis high layer i)
within_across b axis high i layer beside few =
    within_with b.mesh.cells i axis (layer_along (cells_along b.mesh axis) high layer) (in_mesh b i beside.sound beside.within) (three_axes b axis beside.sound beside.used)
    (layer_below (cells_along b.mesh axis) high layer few (wide b axis beside.sound beside.used))
