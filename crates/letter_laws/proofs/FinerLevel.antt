-- Senders of the next finer level.
use Rattle.std.proofs.Common.{◌≡◌, ◌==◌, ℕ, ◌+◌, ◌-◌, ◌*◌, ◌/◌, ◌%◌, ◌<◌, ◌≤◌, Bool, true, cond, not, nat_lt, Some, List, Contains, refl, arith, ap, subst, sym, ◌∙◌, slice_index}
use Rattle.std.proofs.lemmas.Bool.{lt-ltb}
use Rattle.std.proofs.lemmas.Nat.{div-mul-add, mod-mul-add}
use Rattle.morton_order.specs.declared.space.Loc.{Loc}
use Rattle.morton_order.specs.Space.{axis_of, child, child_number, factor, parts}
use Rattle.morton_order.specs.Neighbours.{across}
use Rattle.morton_order.proofs.Crossing.{crossed_level}
use Rattle.morton_order.proofs.Touching.{same_as}
use Rattle.block_tree.specs.Behind.{Behind, Names, fine}
use Rattle.block_tree.specs.Tree.{IsLeaf}
use Rattle.block_tree.proofs.Behinds.{number_of_child}
use Rattle.mesh_rules.specs.Mesh.{Mesh, block_of, cells_along, is_inner}
use Rattle.mesh_rules.specs.Look.{look}
use Rattle.mesh_rules.specs.Regions.{at_end, coarse_span, finer, sent_span}
use Rattle.mesh_laws.proofs.Looks.{look_law}
use Rattle.mesh_laws.proofs.Totals.{sum_to-same}
use Rattle.block_layout.specs.declared.layout.Layout.{Layout}
use Rattle.block_layout.specs.Indices.{IsWithin, added, index_of}
use Rattle.block_layout.specs.Layouts.{ghost_layers, place}
use Rattle.block_layout.specs.Regions.{inner_layers, interior, layers, part_extent}
use Rattle.block_geometry.specs.Blocks.{FieldBlock, IsFieldBlock, cell_in, own_place}
use Rattle.block_geometry.specs.Contents.{HasInterior}
use Rattle.block_geometry.proofs.Cells.{block_of_cell_in}
use Rattle.block_geometry.proofs.Rows.{two_layers}
use Rattle.block_geometry.proofs.Seen.{same_cells, three_axes}
use Rattle.block_regions.specs.Written.{place_in}
use Rattle.ghost_laws.specs.Layers.{on_block}
use Rattle.ghost_laws.specs.Refined.{LiesInChild, finer_along, finer_index, half_cells, halves_of}
use Rattle.ghost_laws.proofs.Ghosts.{has_look}
use Rattle.ghost_laws.proofs.Layers.{sizes, used_in}
use Rattle.ghost_laws.proofs.Meeting.{finer_at, two_parts}
use Rattle.ghost_laws.proofs.Refined.{child_cell, finer_within}
use Rattle.ghost_laws.proofs.Senders.{leaf_block}
use Rattle.ghost_laws.proofs.Sizes.{Sized}
use Rattle.restrict_prolong.specs.Refined.{factors, part_index, sum_in}
use Rattle.ghost_buffers.specs.declared.part.How.TheVariants.{Finer}
use Rattle.ghost_buffers.specs.Parts.{part_cell, part_extents}
use Rattle.letter_laws.specs.Sides.{IsSide, behind_side}
use Rattle.letter_laws.specs.Parts.{FinerSends}
use Rattle.letter_laws.proofs.Along.{added_at, each_axis, inner_low, interior_at, layers_low, listed, listed_at, same_place, split, with_at}
use Rattle.letter_laws.proofs.Behinds.{child_of, fine_met, named_leaf}
use Rattle.letter_laws.proofs.Boxes.{box_is, cell_by}
use Rattle.letter_laws.proofs.CoarserLevel.{sized_at}
use Rattle.letter_laws.proofs.FinerHalves.{child_along, child_below, child_first, end_finer, end_in, end_starts, half_at_side, half_small, half_wide, index_halves}
use Rattle.letter_laws.proofs.Spans.{finer_extents, finer_kind, region_of, same_half}

-- a finer sender, and how it stands to the receiver
pub record Below (b : FieldBlock) (axis : ℕ) (high : Bool) (o : Loc) : Type 0 where
  pub at : Loc
  pub meets : across b.mesh.shape b.leaf axis high ≡ Some at
  pub inner_is : is_inner b.mesh at ≡ true
  pub is : child b.mesh.shape.dims at (child_number b.mesh.shape.dims o) ≡ o
  pub level : o.level ≡ b.leaf.level + 1
  pub at_level : at.level ≡ b.leaf.level
  pub half : slice_index (halves_of b.mesh.shape.dims (child_number b.mesh.shape.dims o)) axis ≡ cond high 0 1
  pub leaf : IsLeaf b.mesh.shape (is_inner b.mesh) o
  pub along : (k : ℕ) → k < 3 → axis_of o k ≡ factor b.mesh.shape.dims k * axis_of at k + slice_index (halves_of b.mesh.shape.dims (child_number b.mesh.shape.dims o)) k

pub below_is : (b : FieldBlock) (axis : ℕ) (high : Bool) (os : List Loc) (o : Loc) → IsSide b axis → behind_side b axis high ≡ fine os → Contains os o → Below b axis high o
below_is b axis high os o side is among =
    let D : ℕ = b.mesh.shape.dims in
    let shape = side.sound.mesh.shape in
    let h = three_axes b axis side.sound side.used in
    let x = fine_met b axis high os is in
    let c = child_of b axis high os o x among in
    let number : child_number D o ≡ c.j = ap (child_number D) (sym c.is) ∙ number_of_child D x.at c.j shape.most shape.least c.few in
    let one : child D x.at (child_number D o) ≡ o = ap (child D x.at) number ∙ c.is in
    let up : o.level ≡ x.at.level + 1 = ap (λ (v : Loc). v.level) (sym one) in
    let level = crossed_level b.mesh.shape b.leaf axis high x.at x.meets in
    record {
      at = x.at;
      meets = x.meets;
      inner_is = x.inner_is;
      is = one;
      level = up ∙ ap (λ v. v + 1) level;
      at_level = level;
      half = ap (λ v. slice_index (halves_of D v) axis) number ∙ half_at_side D axis c.j high h (two_parts D axis (used_in b axis side.sound side.used)) c.half;
      leaf = named_leaf b axis high o side (subst (λ (v : Behind). Names v o) (sym is) among);
      along = λ k g. ap (λ (v : Loc). axis_of v k) (sym one) ∙ child_along D x.at (child_number D o) k g;
    }

-- the half of a row, and how much of it a sender's cell at an index of its part comes to
abbrev pub half_row : FieldBlock → ℕ → ℕ
half_row b k = half_cells b.mesh k

abbrev pub part_along : FieldBlock → ℕ → Bool → List ℕ → ℕ → ℕ
part_along b axis end i k = cond (k == axis) (cond end (half_row b axis - 2) 0 + slice_index i k) (slice_index i k)

-- the same in the block across, whose child the sender is
abbrev pub across_along : FieldBlock → ℕ → Bool → ℕ → List ℕ → ℕ → ℕ
across_along b axis end j i k = slice_index (halves_of b.mesh.shape.dims j) k * half_row b k + part_along b axis end i k

-- the sizes of a row in use
pub wide_half : (b : FieldBlock) (axis : ℕ) → IsSide b axis → (2 ≤ half_row b axis) × (cells_along b.mesh axis ≡ 2 * half_row b axis)
wide_half b axis side =
    let h = three_axes b axis side.sound side.used in
    let D : ℕ = b.mesh.shape.dims in
    let used = used_in b axis side.sound side.used in
    let size : Sized true (cells_along b.mesh axis) = subst (λ (t : Bool). Sized t (cells_along b.mesh axis)) (lt-ltb axis D used) (sized_at b axis side.sound h) in
    subst (λ v. (2 ≤ cells_along b.mesh axis / v) × (cells_along b.mesh axis ≡ 2 * (cells_along b.mesh axis / v))) (sym (two_parts D axis used)) (half_wide (cells_along b.mesh axis) size)

-- extents of the part
extent_at : (b : FieldBlock) (axis : ℕ) (i : List ℕ) (k : ℕ) → IsSide b axis → k < 3 → IsWithin (part_extents Finer b.layout axis) i → slice_index i k < cond (k == axis) 2 (half_row b k)
extent_at b axis i k side g w =
    let l : Layout = b.layout in
    let h = three_axes b axis side.sound side.used in
    let extent : (k : ℕ) → k < 3 → slice_index i k < part_extent l axis (layers l axis 0 2) k = each_axis (λ k. slice_index i k < part_extent l axis (layers l axis 0 2) k) w.along1 w.along2 w.along3 in
    let below : slice_index i k < cond (k == axis) (cond (k == axis) 2 (slice_index l.cells k)) (cond (k == axis) 2 (slice_index l.cells k) / factor l.dims k) =
    subst (λ v. slice_index i k < cond (k == axis) v (v / factor l.dims k)) (with_at axis 2 k l.cells h g) (extent k g) in
    split k axis (λ (t : Bool). slice_index i k < cond t (cond t 2 (slice_index l.cells k)) (cond t 2 (slice_index l.cells k) / factor l.dims k) → slice_index i k < cond t 2 (half_row b k))
    (λ e c. c) (λ d c. subst (λ v. slice_index i k < v) (same_half b k side.sound) c) below

part_below : (b : FieldBlock) (axis : ℕ) (end : Bool) (i : List ℕ) (k : ℕ) → IsSide b axis → k < 3 → IsWithin (part_extents Finer b.layout axis) i → part_along b axis end i k < half_row b k
part_below b axis end i k side g w =
    let two = wide_half b axis side in
    split k axis (λ (t : Bool). slice_index i k < cond t 2 (half_row b k) → cond t (cond end (half_row b axis - 2) 0 + slice_index i k) (slice_index i k) < half_row b k)
    (λ e c. subst (λ v. cond end (half_row b axis - 2) 0 + slice_index i k < half_row b v) (sym e) (end_in (half_row b axis) (slice_index i k) end c two.0))
    (λ d c. c)
    (extent_at b axis i k side g w)

-- where they lie in the list
finer_place : (b : FieldBlock) (axis : ℕ) (end : Bool) (i Q : List ℕ) (j : ℕ) → IsSide b axis → ((k : ℕ) → k < 3 → slice_index Q k % half_row b k ≡ part_along b axis end i k) → j < parts b.mesh.shape.dims →
    place b.layout (added (inner_layers b.layout axis end 4).low (part_index (factors b.mesh.shape.dims) i j)) ≡ own_place b.layout (finer_index b.mesh Q j)
finer_place b axis end i Q j side rests few = same_place l (added (inner_layers l axis end 4).low p) (added (interior l).low (finer_index b.mesh Q j)) along
  where
    l : Layout
    l = b.layout

    D : ℕ
    D = b.mesh.shape.dims

    p : List ℕ
    p = part_index (factors D) i j

    fine_at : (k : ℕ) → k < 3 → slice_index p k ≡ factor D k * slice_index i k + slice_index (halves_of D j) k
    fine_at k g =
        let shape = side.sound.mesh.shape in
        each_axis (λ k. slice_index p k ≡ factor D k * slice_index i k + slice_index (index_of (factors D) j) k) refl refl refl k g
        ∙ ap (λ v. factor D k * slice_index i k + v) (index_halves D j k shape.least shape.most few g)

    along : (k : ℕ) → k < 3 → slice_index (added (inner_layers l axis end 4).low p) k ≡ slice_index (added (interior l).low (finer_index b.mesh Q j)) k
    along k g =
        let h = three_axes b axis side.sound side.used in
        let used = used_in b axis side.sound side.used in
        let two = wide_half b axis side in
        let F : ℕ = factor D k in
        let T : ℕ = slice_index (halves_of D j) k in
        added_at (inner_layers l axis end 4).low p k g
        ∙ ap (λ v. v + slice_index p k) (inner_low l axis end 4 k h g)
        ∙ ap (λ v. cond (k == axis) (layers_low l axis end 4) (ghost_layers l k) + v) (fine_at k g)
        ∙ split k axis (λ (t : Bool). cond t (layers_low l axis end 4) (ghost_layers l k) + (F * slice_index i k + T) ≡ ghost_layers l k + (F * cond t (cond end (half_row b axis - 2) 0 + slice_index i k) (slice_index i k) + T))
        (λ e. subst (λ v. cond end (slice_index l.cells axis + 2 - 4) 2 + (v * slice_index i k + T) ≡ ghost_layers l k + (v * (cond end (half_row b axis - 2) 0 + slice_index i k) + T)) (sym (two_parts D k (subst (λ v. v < D) (sym e) used)))
        (end_finer (slice_index l.cells axis) (half_row b axis) (slice_index i k) T (ghost_layers l k) end (two_layers l k (subst (λ v. v < l.dims) (sym e) side.used)) two.0 (same_cells b axis side.sound ∙ two.1)))
        (λ d. refl)
        ∙ sym (ap (λ v. ghost_layers l k + (F * v + T)) (rests k g))
        ∙ sym (ap (λ v. v + finer_along b.mesh Q j k) (interior_at l k g))
        ∙ sym (ap (λ v. slice_index (interior l).low k + v) (finer_at b.mesh Q j k g))
        ∙ sym (added_at (interior l).low (finer_index b.mesh Q j) k g)

-- and in the mesh, on the receiver's level
finer_starts : (b : FieldBlock) (axis : ℕ) (high : Bool) (o : Loc) (i : List ℕ) (k : ℕ) → IsSide b axis → (x : Below b axis high o) → k < 3 →
    (sent_span finer b.mesh o b.leaf axis high k).first + slice_index i k ≡ axis_of x.at k * cells_along b.mesh k + across_along b axis (not high) (child_number b.mesh.shape.dims o) i k
finer_starts b axis high o i k side x g =
    let D : ℕ = b.mesh.shape.dims in
    let N : ℕ = cells_along b.mesh k in
    let H : ℕ = half_row b k in
    let J : ℕ = slice_index (halves_of D (child_number D o)) k in
    let S : ℕ = axis_of o k * H in
    let two = wide_half b axis side in
    let start : S ≡ axis_of x.at k * N + J * H = ap (λ v. v * H) (x.along k g) ∙ child_first (nat_lt k D) N (axis_of x.at k) J (sized_at b k side.sound g) in
    split k axis (λ (t : Bool). (cond t (at_end (not high) 2 (coarse_span b.mesh o k)) (coarse_span b.mesh o k)).first + slice_index i k ≡ axis_of x.at k * N + (J * H + cond t (cond (not high) (half_row b axis - 2) 0 + slice_index i k) (slice_index i k)))
    (λ e. subst (λ v. cond (not high) (S + H - 2) S + slice_index i k ≡ axis_of x.at k * N + (J * H + (cond (not high) (v - 2) 0 + slice_index i k))) (ap (half_row b) e)
    (end_starts S (axis_of x.at k * N) (J * H) H (slice_index i k) (not high) start (subst (λ v. 2 ≤ half_row b v) (sym e) two.0)))
    (λ d. ap (λ v. v + slice_index i k) start ∙ regroup (axis_of x.at k * N) (J * H) (slice_index i k))
  where
    regroup : (a c d : ℕ) → a + c + d ≡ a + (c + d)
    regroup a c d = omega arith

-- the index that a cell of the region has in the block across
abbrev pub finer_place_in : FieldBlock → ℕ → Bool → Loc → List ℕ → List ℕ
finer_place_in b axis high o i = listed (across_along b axis (not high) (child_number b.mesh.shape.dims o) i)

pub finer_inside : (b : FieldBlock) (axis : ℕ) (high : Bool) (o : Loc) (i : List ℕ) → IsSide b axis → IsWithin (part_extents Finer b.layout axis) i → IsWithin b.mesh.cells (finer_place_in b axis high o i)
finer_inside b axis high o i side w =
    let D : ℕ = b.mesh.shape.dims in
    let j : ℕ = child_number D o in
    let inside : (k : ℕ) → k < 3 → across_along b axis (not high) j i k < cells_along b.mesh k =
    λ k g. child_below (nat_lt k D) (cells_along b.mesh k) (slice_index (halves_of D j) k) (part_along b axis (not high) i k) (sized_at b k side.sound g) (half_small D j k g) (part_below b axis (not high) i k side g w) in
    record { along1 = inside 0 (omega arith); along2 = inside 1 (omega arith); along3 = inside 2 (omega arith) }

pub finer_is : (b : FieldBlock) (axis : ℕ) (high : Bool) (o : Loc) (i : List ℕ) → IsSide b axis → (x : Below b axis high o) →
    cell_in b.mesh x.at (finer_place_in b axis high o i) ≡ cell_by b.leaf.level (sent_span finer b.mesh o b.leaf axis high 0) (sent_span finer b.mesh o b.leaf axis high 1) (sent_span finer b.mesh o b.leaf axis high 2) i
finer_is b axis high o i side x =
    let m : Mesh = b.mesh in
    sym (same_as (cell_in m x.at (finer_place_in b axis high o i)) (cell_by b.leaf.level (sent_span finer m o b.leaf axis high 0) (sent_span finer m o b.leaf axis high 1) (sent_span finer m o b.leaf axis high 2) i) (sym x.at_level)
    (finer_starts b axis high o i 0 side x (omega arith)) (finer_starts b axis high o i 1 side x (omega arith)) (finer_starts b axis high o i 2 side x (omega arith)))

pub finer_cell : (b : FieldBlock) (axis : ℕ) (high : Bool) (o : Loc) (half : ℕ) (cells i : List ℕ) → IsSide b axis → Below b axis high o → HasInterior (on_block b o) cells → IsWithin (part_extents Finer b.layout axis) i →
    part_cell Finer b.layout axis (not high) half cells i ≡ look b.mesh b.field (cell_by b.leaf.level (sent_span finer b.mesh o b.leaf axis high 0) (sent_span finer b.mesh o b.leaf axis high 1) (sent_span finer b.mesh o b.leaf axis high 2) i)
finer_cell b axis high o half cells i side x has w =
    let l : Layout = b.layout in
    let m : Mesh = b.mesh in
    let D : ℕ = m.shape.dims in
    let sound = side.sound in
    let fit = sizes b sound in
    let j : ℕ = child_number D o in
    let Q : List ℕ = finer_place_in b axis high o i in
    let c : Loc = cell_in m x.at Q in
    let J : ℕ → ℕ = λ k. slice_index (halves_of D j) k in
    let below : (k : ℕ) → k < 3 → part_along b axis (not high) i k < half_row b k = λ k g. part_below b axis (not high) i k side g w in
    let rests : (k : ℕ) → k < 3 → slice_index Q k % half_row b k ≡ part_along b axis (not high) i k =
    λ k g. ap (λ v. v % half_row b k) (listed_at (across_along b axis (not high) j i) k g) ∙ mod-mul-add (J k) (half_row b k) (part_along b axis (not high) i k) (below k g) in
    let lie : (k : ℕ) → k < 3 → across_along b axis (not high) j i k / half_row b k ≡ J k = λ k g. div-mul-add (J k) (half_row b k) (part_along b axis (not high) i k) (below k g) in
    let lies : LiesInChild m j Q = record { along1 = lie 0 (omega arith); along2 = lie 1 (omega arith); along3 = lie 2 (omega arith) } in
    let block : IsFieldBlock (on_block b o) = leaf_block b o sound x.leaf in
    let inner : is_inner m (block_of m c) ≡ true = ap (is_inner m) (block_of_cell_in m x.at Q (finer_inside b axis high o i side w)) ∙ x.inner_is in
    ap (λ d. sum_in (factors d) (λ (p : List ℕ). slice_index cells (place_in l (inner_layers l axis (not high) 4) p)) i) sound.layout.dims
    ∙ sum_to-same (parts D) (λ k. slice_index cells (place_in l (inner_layers l axis (not high) 4) (part_index (factors D) i k))) (λ k. look m b.field (child D c k))
    (λ k few. ap (slice_index cells) (finer_place b axis (not high) i Q k side rests few)
    ∙ sym (has_look b o cells (finer_index m Q k) block has (finer_within m Q k fit))
    ∙ ap (λ (v : Loc). look m b.field (cell_in m v (finer_index m Q k))) (sym x.is)
    ∙ sym (ap (look m b.field) (child_cell m x.at Q j k fit lies)))
    ∙ sym ((look_law m b.field c sound.mesh).finer inner)
    ∙ ap (look m b.field) (finer_is b axis high o i side x)

pub finer_sends : FinerSends
finer_sends b axis high os o half cells side is among has =
    let m : Mesh = b.mesh in
    let x = below_is b axis high os o side is among in
    let level = x.level in
    box_is b.leaf.level (sent_span finer m o b.leaf axis high 0) (sent_span finer m o b.leaf axis high 1) (sent_span finer m o b.leaf axis high 2) (part_extents Finer b.layout axis) (look m b.field) (part_cell Finer b.layout axis (not high) half cells)
    (finer_extents b axis high o b.leaf side.sound (three_axes b axis side.sound side.used))
    (λ i w. finer_cell b axis high o half cells i side x has w)
    ∙ sym (region_of m b.field o b.leaf axis high finer (finer_kind o b.leaf (omega arith)))
