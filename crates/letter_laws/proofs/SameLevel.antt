-- Senders of the same level.
use Rattle.std.proofs.Common.{◌≡◌, ◌==◌, ℕ, ◌+◌, ◌-◌, ◌*◌, ◌<◌, ◌≤◌, Bool, true, false, cond, not, Some, List, refl, arith, ap, subst, sym, ◌∙◌, slice_index}
use Rattle.morton_order.specs.declared.space.Loc.{Loc}
use Rattle.morton_order.specs.Space.{axis_of}
use Rattle.morton_order.specs.Neighbours.{across}
use Rattle.morton_order.proofs.Crossing.{crossed_level}
use Rattle.morton_order.proofs.Touching.{same_as}
use Rattle.block_tree.specs.Behind.{Behind, Names}
use Rattle.block_tree.specs.Tree.{IsLeaf}
use Rattle.mesh_rules.specs.Mesh.{Mesh, cells_along, is_inner}
use Rattle.mesh_rules.specs.Look.{look}
use Rattle.mesh_rules.specs.Regions.{Span, at_end, own_span, same_level, sent_span}
use Rattle.block_layout.specs.declared.layout.Layout.{Layout}
use Rattle.block_layout.specs.Indices.{IsWithin, added, number_of, with_along}
use Rattle.block_layout.specs.Layouts.{ghost_layers}
use Rattle.block_layout.specs.Regions.{ghosts, inner_layers, interior}
use Rattle.block_geometry.specs.Blocks.{FieldBlock, IsFieldBlock, cell_in, ghost_along, ghost_place}
use Rattle.block_geometry.specs.Contents.{HasInterior, SeesBeyond}
use Rattle.block_geometry.proofs.Cells.{within_along}
use Rattle.block_geometry.proofs.Seen.{in_mesh, same_cells, three_axes}
use Rattle.block_regions.specs.Written.{place_in}
use Rattle.ghost_laws.specs.Given.{IsBeside}
use Rattle.ghost_laws.specs.Layers.{across_index, layer_along, on_block, seen_in_layer}
use Rattle.ghost_laws.proofs.Ghosts.{has_look}
use Rattle.ghost_laws.proofs.Layers.{layer_look, wide}
use Rattle.ghost_laws.proofs.Senders.{leaf_block}
use Rattle.ghost_buffers.specs.declared.part.How.TheVariants.{Same}
use Rattle.ghost_buffers.specs.Parts.{part_cell, part_extents}
use Rattle.letter_laws.specs.Sides.{IsSide}
use Rattle.letter_laws.specs.Parts.{SameSends}
use Rattle.letter_laws.specs.Ghosts.{SameSees}
use Rattle.letter_laws.proofs.Along.{added_at, ghosts_low, interior_at, layers_place, listed, own_along, same_place, split, with_at}
use Rattle.letter_laws.proofs.Behinds.{Across, named_leaf, same_met}
use Rattle.letter_laws.proofs.Boxes.{at_box, box_is, cell_by}
use Rattle.letter_laws.proofs.Spans.{region_of, same_extents, same_kind}

-- the own cells of the sender
on_end : (n d i : ℕ) (end : Bool) → i < d → d ≤ n → cond end (n - d) 0 + i < n
on_end n d i true h k = omega arith
on_end n d i false h k = omega arith

pub own_below : (l : Layout) (axis : ℕ) (end : Bool) (depth : ℕ) (i : List ℕ) (k : ℕ) → axis < 3 → k < 3 → depth ≤ slice_index l.cells axis → IsWithin (with_along axis depth l.cells) i → own_along l axis end depth i k < slice_index l.cells k
own_below l axis end depth i k h g few w =
    let below : slice_index i k < cond (k == axis) depth (slice_index l.cells k) = subst (λ v. slice_index i k < v) (with_at axis depth k l.cells h g) (within_along (with_along axis depth l.cells) i k w g) in
    split k axis (λ (t : Bool). slice_index i k < cond t depth (slice_index l.cells k) → cond t (cond end (slice_index l.cells axis - depth) 0 + slice_index i k) (slice_index i k) < slice_index l.cells k)
    (λ e b. subst (λ v. cond end (slice_index l.cells axis - depth) 0 + slice_index i k < slice_index l.cells v) (sym e) (on_end (slice_index l.cells axis) depth (slice_index i k) end b few))
    (λ d b. b)
    below

-- where they lie in the mesh
first_end : (F n N x d : ℕ) (end : Bool) → n ≡ N → d ≤ n → cond end (F + N - d) F + x ≡ F + (cond end (n - d) 0 + x)
first_end F n N x d true e k = omega arith
first_end F n N x d false e k = omega arith

pub own_first : (b : FieldBlock) (axis depth : ℕ) (end : Bool) (o : Loc) (i : List ℕ) (k : ℕ) → IsFieldBlock b → depth ≤ slice_index b.layout.cells axis →
    (cond (k == axis) (at_end end depth (own_span b.mesh o k)) (own_span b.mesh o k)).first + slice_index i k ≡ axis_of o k * cells_along b.mesh k + own_along b.layout axis end depth i k
own_first b axis depth end o i k sound few =
    let F : ℕ = axis_of o k * cells_along b.mesh k in
    split k axis (λ (t : Bool). (cond t (at_end end depth (own_span b.mesh o k)) (own_span b.mesh o k)).first + slice_index i k ≡ F + cond t (cond end (slice_index b.layout.cells axis - depth) 0 + slice_index i k) (slice_index i k))
    (λ e. first_end F (slice_index b.layout.cells axis) (cells_along b.mesh k) (slice_index i k) depth end (ap (λ v. slice_index b.layout.cells v) (sym e) ∙ same_cells b k sound) few)
    (λ d. refl)

-- the index that a cell of the region has in the sender
abbrev pub same_index : FieldBlock → ℕ → Bool → List ℕ → List ℕ
same_index b axis high i = listed (own_along b.layout axis (not high) 2 i)

two_fit : (b : FieldBlock) (axis : ℕ) → IsSide b axis → 2 ≤ slice_index b.layout.cells axis
two_fit b axis side = let four : 4 ≤ slice_index b.layout.cells axis = subst (λ v. 4 ≤ v) (sym (same_cells b axis side.sound)) (wide b axis side.sound side.used) in omega arith

pub same_within : (b : FieldBlock) (axis : ℕ) (high : Bool) (i : List ℕ) → IsSide b axis → IsWithin (with_along axis 2 b.layout.cells) i → IsWithin b.layout.cells (same_index b axis high i)
same_within b axis high i side w =
    let l : Layout = b.layout in
    let h = three_axes b axis side.sound side.used in
    let below : (k : ℕ) → k < 3 → own_along l axis (not high) 2 i k < slice_index l.cells k = λ k g. own_below l axis (not high) 2 i k h g (two_fit b axis side) w in
    record { along1 = below 0 (omega arith); along2 = below 1 (omega arith); along3 = below 2 (omega arith) }

pub same_is : (b : FieldBlock) (axis : ℕ) (high : Bool) (o : Loc) (i : List ℕ) → IsSide b axis → o.level ≡ b.leaf.level →
    cell_in b.mesh o (same_index b axis high i) ≡ cell_by b.leaf.level (sent_span same_level b.mesh o b.leaf axis high 0) (sent_span same_level b.mesh o b.leaf axis high 1) (sent_span same_level b.mesh o b.leaf axis high 2) i
same_is b axis high o i side level =
    let m : Mesh = b.mesh in
    let first : (k : ℕ) → (sent_span same_level m o b.leaf axis high k).first + slice_index i k ≡ axis_of o k * cells_along m k + own_along b.layout axis (not high) 2 i k = λ k. own_first b axis 2 (not high) o i k side.sound (two_fit b axis side) in
    same_as (cell_by b.leaf.level (sent_span same_level m o b.leaf axis high 0) (sent_span same_level m o b.leaf axis high 1) (sent_span same_level m o b.leaf axis high 2) i) (cell_in m o (same_index b axis high i)) level (sym (first 0)) (sym (first 1)) (sym (first 2))

same_cell : (b : FieldBlock) (axis : ℕ) (high : Bool) (o : Loc) (cells i : List ℕ) → IsSide b axis → IsLeaf b.mesh.shape (is_inner b.mesh) o → o.level ≡ b.leaf.level → HasInterior (on_block b o) cells → IsWithin (with_along axis 2 b.layout.cells) i →
    slice_index cells (place_in b.layout (inner_layers b.layout axis (not high) 2) i) ≡ look b.mesh b.field (cell_by b.leaf.level (sent_span same_level b.mesh o b.leaf axis high 0) (sent_span same_level b.mesh o b.leaf axis high 1) (sent_span same_level b.mesh o b.leaf axis high 2) i)
same_cell b axis high o cells i side leaf level has w =
    let sound = side.sound in
    let q : List ℕ = same_index b axis high i in
    ap (slice_index cells) (layers_place b.layout axis (not high) 2 i side.used (three_axes b axis sound side.used) (two_fit b axis side))
    ∙ sym (has_look b o cells q (leaf_block b o sound leaf) has (in_mesh b q sound (same_within b axis high i side w)))
    ∙ ap (look b.mesh b.field) (same_is b axis high o i side level)

pub same_sends : SameSends
same_sends b axis high o half cells side is has =
    let m : Mesh = b.mesh in
    let x = same_met b axis high o is in
    let h = three_axes b axis side.sound side.used in
    let leaf = named_leaf b axis high o side (subst (λ (v : Behind). Names v o) (sym is) refl) in
    let level : o.level ≡ b.leaf.level = ap (λ (v : Loc). v.level) (sym x.1) ∙ crossed_level m.shape b.leaf axis high x.0.at x.0.meets in
    box_is b.leaf.level (sent_span same_level m o b.leaf axis high 0) (sent_span same_level m o b.leaf axis high 1) (sent_span same_level m o b.leaf axis high 2) (part_extents Same b.layout axis) (look m b.field) (part_cell Same b.layout axis (not high) half cells)
    (same_extents b axis high o b.leaf side.sound h)
    (λ i w. same_cell b axis high o cells i side leaf level has w)
    ∙ sym (region_of m b.field o b.leaf axis high same_level (same_kind o b.leaf level))

-- a ghost of a layer, by its index in both layers
abbrev pub layer_index : ℕ → Bool → ℕ → List ℕ → List ℕ
layer_index axis high layer i = with_along axis (cond high layer (1 - layer)) i

ghost_end : (n layer : ℕ) (high : Bool) → cond high (n + 2 + layer) (1 - layer) ≡ cond high (n + 2) 0 + cond high layer (1 - layer)
ghost_end n layer true = refl
ghost_end n layer false = omega arith

pub ghost_in_layers : (l : Layout) (axis : ℕ) (high : Bool) (layer : ℕ) (i : List ℕ) → axis < 3 → ghost_place l axis high layer i ≡ place_in l (ghosts l axis high) (layer_index axis high layer i)
ghost_in_layers l axis high layer i h = same_place l (with_along axis (ghost_along l axis high layer) (added (interior l).low i)) (added (ghosts l axis high).low (layer_index axis high layer i)) along
  where
    along : (k : ℕ) → k < 3 → slice_index (with_along axis (ghost_along l axis high layer) (added (interior l).low i)) k ≡ slice_index (added (ghosts l axis high).low (layer_index axis high layer i)) k
    along k g =
        with_at axis (ghost_along l axis high layer) k (added (interior l).low i) h g
        ∙ ap (λ v. cond (k == axis) (ghost_along l axis high layer) v) (added_at (interior l).low i k g ∙ ap (λ v. v + slice_index i k) (interior_at l k g))
        ∙ split k axis (λ (t : Bool). cond t (ghost_along l axis high layer) (ghost_layers l k + slice_index i k) ≡ cond t (cond high (slice_index l.cells axis + 2) 0) (ghost_layers l k) + cond t (cond high layer (1 - layer)) (slice_index i k))
        (λ e. ghost_end (slice_index l.cells axis) layer high) (λ d. refl)
        ∙ sym (ap (λ v. v + cond (k == axis) (cond high layer (1 - layer)) (slice_index i k)) (ghosts_low l axis high k h g))
        ∙ sym (ap (λ v. slice_index (ghosts l axis high).low k + v) (with_at axis (cond high layer (1 - layer)) k i h g))
        ∙ sym (added_at (ghosts l axis high).low (layer_index axis high layer i) k g)

layer_below : (layer : ℕ) (high : Bool) → layer < 2 → cond high layer (1 - layer) < 2
layer_below layer true h = h
layer_below layer false h = omega arith

pub layer_within : (l : Layout) (axis : ℕ) (high : Bool) (layer : ℕ) (i : List ℕ) → axis < 3 → layer < 2 → IsWithin l.cells i → IsWithin (with_along axis 2 l.cells) (layer_index axis high layer i)
layer_within l axis high layer i h few w =
    let at : (k : ℕ) → k < 3 → slice_index (layer_index axis high layer i) k < slice_index (with_along axis 2 l.cells) k =
    λ k g. subst (λ v. v < slice_index (with_along axis 2 l.cells) k) (sym (with_at axis (cond high layer (1 - layer)) k i h g))
    (subst (λ v. cond (k == axis) (cond high layer (1 - layer)) (slice_index i k) < v) (sym (with_at axis 2 k l.cells h g))
    (split k axis (λ (t : Bool). cond t (cond high layer (1 - layer)) (slice_index i k) < cond t 2 (slice_index l.cells k)) (λ e. layer_below layer high few) (λ d. within_along l.cells i k w g))) in
    record { along1 = at 0 (omega arith); along2 = at 1 (omega arith); along3 = at 2 (omega arith) }

-- the cell that its part has there
cell_end : (F N layer : ℕ) (high : Bool) → layer < 2 → 2 ≤ N → cond (not high) (F + N - 2) F + cond high layer (1 - layer) ≡ F + layer_along N high layer
cell_end F N layer true h k = refl
cell_end F N layer false h k = omega arith

same_ghost : (b : FieldBlock) (axis : ℕ) (high : Bool) (o : Loc) (layer : ℕ) (i : List ℕ) (k : ℕ) → IsSide b axis → layer < 2 → k < 3 →
    (sent_span same_level b.mesh o b.leaf axis high k).first + slice_index (layer_index axis high layer i) k ≡ axis_of o k * cells_along b.mesh k + slice_index (across_index b.mesh axis high layer i) k
same_ghost b axis high o layer i k side few g =
    let h = three_axes b axis side.sound side.used in
    let N : ℕ = cells_along b.mesh axis in
    let four = wide b axis side.sound side.used in
    let F : ℕ = axis_of o k * cells_along b.mesh k in
    ap (λ v. (sent_span same_level b.mesh o b.leaf axis high k).first + v) (with_at axis (cond high layer (1 - layer)) k i h g)
    ∙ split k axis (λ (t : Bool). (cond t (at_end (not high) 2 (own_span b.mesh o k)) (own_span b.mesh o k)).first + cond t (cond high layer (1 - layer)) (slice_index i k) ≡ F + cond t (layer_along N high layer) (slice_index i k))
    (λ e. subst (λ v. cond (not high) (F + cells_along b.mesh k - 2) F + cond high layer (1 - layer) ≡ F + layer_along v high layer) (ap (cells_along b.mesh) e) (cell_end F (cells_along b.mesh k) layer high few (subst (λ v. 2 ≤ cells_along b.mesh v) (sym e) (omega arith))))
    (λ d. refl)
    ∙ sym (ap (λ v. F + v) (with_at axis (layer_along N high layer) k i h g))

-- both layers are seen
pub both_layers : (b : FieldBlock) (axis : ℕ) (high : Bool) (cells i : List ℕ) → ((layer : ℕ) → layer < 2 → slice_index cells (ghost_place b.layout axis high layer i) ≡ seen_in_layer b i axis high layer) → SeesBeyond b cells i axis high
both_layers b axis high cells i each = record { next = each 0 (omega arith); second = each 1 (omega arith) }

-- what a part that is the region has there is the look in the cell across
pub same_sees : SameSees
same_sees b axis high o half cells side is given i w at = both_layers b axis high cells i each
  where
    m : Mesh
    m = b.mesh

    l : Layout
    l = b.layout

    h : axis < 3
    h = three_axes b axis side.sound side.used

    x : (x : Across b axis high false true) × (x.at ≡ o)
    x = same_met b axis high o is

    meets : across b.mesh.shape b.leaf axis high ≡ Some o
    meets = x.0.meets ∙ ap (λ (v : Loc). Some v) x.1

    level : o.level ≡ b.leaf.level
    level = crossed_level b.mesh.shape b.leaf axis high o meets

    beside : IsBeside b axis high i
    beside = record { sound = side.sound; used = side.used; within = w; at = at }

    each : (layer : ℕ) → layer < 2 → slice_index cells (ghost_place b.layout axis high layer i) ≡ seen_in_layer b i axis high layer
    each layer few =
        let r : List ℕ = layer_index axis high layer i in
        let s1 : Span = sent_span same_level m o b.leaf axis high 0 in
        let s2 : Span = sent_span same_level m o b.leaf axis high 1 in
        let s3 : Span = sent_span same_level m o b.leaf axis high 2 in
        let e : List ℕ = part_extents Same l axis in
        let within = layer_within l axis high layer i h few w in
        ap (slice_index cells) (ghost_in_layers l axis high layer i h)
        ∙ given r within
        ∙ ap (λ v. slice_index v (number_of e r)) (region_of m b.field o b.leaf axis high same_level (same_kind o b.leaf level))
        ∙ at_box b.leaf.level s1 s2 s3 e (look m b.field) r (same_extents b axis high o b.leaf side.sound h) within
        ∙ ap (look m b.field) (same_as (cell_in m o (across_index m axis high layer i)) (cell_by b.leaf.level s1 s2 s3 r) (sym level)
        (same_ghost b axis high o layer i 0 side few (omega arith)) (same_ghost b axis high o layer i 1 side few (omega arith)) (same_ghost b axis high o layer i 2 side few (omega arith)))
        ∙ sym (layer_look b axis high o i layer beside few meets)
