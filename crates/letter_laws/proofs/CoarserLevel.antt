-- Senders of the next coarser level.
use Rattle.std.proofs.Common.{◌≡◌, ◌==◌, ◌⊎◌, inl, inr, ℕ, zero, suc, ◌+◌, ◌-◌, ◌*◌, ◌/◌, ◌%◌, ◌<◌, ◌≤◌, Bool, true, false, cond, not, nat_lt, Some, List, refl, arith, ap, subst, sym, ◌∙◌, slice_index}
use Rattle.std.proofs.lemmas.Bool.{lt-ltb}
use Rattle.mesh_num.specs.Share.{share}
use Rattle.morton_order.specs.declared.space.Loc.{Loc}
use Rattle.morton_order.specs.Space.{axis_of, child_number, factor, parent, parts}
use Rattle.morton_order.specs.Neighbours.{across, moved}
use Rattle.morton_order.proofs.Crossing.{across-back, across-moved, across-sibling, across-touches, crossed_level}
use Rattle.morton_order.proofs.Touching.{same_as}
use Rattle.block_tree.specs.Behind.{Behind, Names, coarse}
use Rattle.block_tree.specs.Tree.{IsLeaf, is_node}
use Rattle.block_tree.proofs.Ancestors.{node_parent, not_node}
use Rattle.mesh_rules.specs.Mesh.{Mesh, block_of, cells_along, is_inner}
use Rattle.mesh_rules.specs.Look.{look}
use Rattle.mesh_rules.specs.Regions.{Span, at_end, coarse_span, coarser, own_span, region, sent_span}
use Rattle.mesh_laws.proofs.Looks.{look_law}
use Rattle.block_layout.specs.declared.layout.Layout.{Layout}
use Rattle.block_layout.specs.Indices.{IsWithin, added, number_of}
use Rattle.block_layout.specs.Layouts.{ghost_layers, place}
use Rattle.block_layout.specs.Regions.{Region, beside_part, half_along, inner_layers, interior, layers, part_extent, part_low}
use Rattle.block_geometry.specs.Blocks.{FieldBlock, IsFieldBlock, cell_in, ghost_place, own_place}
use Rattle.block_geometry.specs.Contents.{HasInterior}
use Rattle.block_geometry.proofs.Cells.{block_of_cell_in, within_along}
use Rattle.block_geometry.proofs.Rows.{two_layers}
use Rattle.block_geometry.proofs.Seen.{in_mesh, same_cells, three_axes}
use Rattle.block_regions.specs.Written.{place_in}
use Rattle.ghost_laws.specs.Given.{IsBeside}
use Rattle.ghost_laws.specs.Layers.{across_index, layer_along, on_block, seen_in_layer}
use Rattle.ghost_laws.specs.Refined.{number_in_coarser}
use Rattle.ghost_laws.proofs.Ghosts.{has_look}
use Rattle.ghost_laws.proofs.Layers.{count_at, layer_look, sizes, used_in, within_across}
use Rattle.ghost_laws.proofs.Meeting.{two_parts}
use Rattle.ghost_laws.proofs.Refined.{number_of_cell}
use Rattle.ghost_laws.proofs.Senders.{leaf_block}
use Rattle.ghost_laws.proofs.Sizes.{Sized, sized}
use Rattle.restrict_prolong.specs.Refined.{at_index, coarsened, factors, part_number, share_in}
use Rattle.ghost_buffers.specs.declared.part.How.TheVariants.{Coarser}
use Rattle.ghost_buffers.specs.Parts.{part_cell, part_extents, sent}
use Rattle.letter_laws.specs.Sides.{IsSide, behind_side, side_part}
use Rattle.letter_laws.specs.Parts.{CoarserSends}
use Rattle.letter_laws.specs.Ghosts.{CoarserSees}
use Rattle.letter_laws.proofs.Along.{added_at, each_axis, inner_low, interior_at, layers_low, listed, listed_at, same_place, split, with_at}
use Rattle.letter_laws.proofs.Behinds.{coarse_met, named_leaf}
use Rattle.letter_laws.proofs.Boxes.{at_box, box_is, cell_by}
use Rattle.letter_laws.proofs.Halves.{end_digit, end_down, half_down, half_is, half_layer, half_within, number_digits, part_below, part_first}
use Rattle.letter_laws.proofs.SameLevel.{both_layers, ghost_in_layers, layer_index, layer_within}
use Rattle.letter_laws.proofs.Spans.{coarser_extents, coarser_kind, region_of, same_half, size_at}

-- the own cell of the sender at an index of its part
abbrev pub part_along : Layout → ℕ → Bool → ℕ → List ℕ → ℕ → ℕ
part_along l axis end half i k = cond (k == axis) (cond end (slice_index l.cells axis - 1) 0 + slice_index i k) (half_along l.dims axis half k * (slice_index l.cells k / 2) + slice_index i k)

end_place : (n x g : ℕ) (end : Bool) → g ≡ 2 → 1 ≤ n → cond end (n + 2 - 1) 2 + 0 + x ≡ g + (cond end (n - 1) 0 + x)
end_place n x g true e h = omega arith
end_place n x g false e h = omega arith

regroup : (a b c : ℕ) → a + b + c ≡ a + (b + c)
regroup a b c = omega arith

part_place : (l : Layout) (axis : ℕ) (end : Bool) (half : ℕ) (i : List ℕ) → axis < l.dims → axis < 3 → 1 ≤ slice_index l.cells axis →
    place l (added (beside_part l axis half (inner_layers l axis end 1)).low i) ≡ own_place l (listed (part_along l axis end half i))
part_place l axis end half i used h few = same_place l (added (beside_part l axis half r).low i) (added (interior l).low (listed (part_along l axis end half i))) along
  where
    r : Region
    r = inner_layers l axis end 1

    low : (k : ℕ) → k < 3 → slice_index (beside_part l axis half r).low k ≡ part_low l axis half r k
    low = each_axis (λ k. slice_index (beside_part l axis half r).low k ≡ part_low l axis half r k) refl refl refl

    along : (k : ℕ) → k < 3 → slice_index (added (beside_part l axis half r).low i) k ≡ slice_index (added (interior l).low (listed (part_along l axis end half i))) k
    along k g =
        added_at (beside_part l axis half r).low i k g
        ∙ ap (λ v. v + slice_index i k) (low k g)
        ∙ ap (λ v. v + cond (k == axis) 0 (half_along l.dims axis half k * (slice_index r.extents k / 2)) + slice_index i k) (inner_low l axis end 1 k h g)
        ∙ ap (λ v. cond (k == axis) (layers_low l axis end 1) (ghost_layers l k) + cond (k == axis) 0 (half_along l.dims axis half k * (v / 2)) + slice_index i k) (with_at axis 1 k l.cells h g)
        ∙ split k axis (λ (t : Bool). cond t (layers_low l axis end 1) (ghost_layers l k) + cond t 0 (half_along l.dims axis half k * (cond t 1 (slice_index l.cells k) / 2)) + slice_index i k ≡ ghost_layers l k + cond t (cond end (slice_index l.cells axis - 1) 0 + slice_index i k) (half_along l.dims axis half k * (slice_index l.cells k / 2) + slice_index i k))
        (λ e. end_place (slice_index l.cells axis) (slice_index i k) (ghost_layers l k) end (two_layers l k (subst (λ v. v < l.dims) (sym e) used)) few)
        (λ d. regroup (ghost_layers l k) (half_along l.dims axis half k * (slice_index l.cells k / 2)) (slice_index i k))
        ∙ sym (ap (λ v. v + part_along l axis end half i k) (interior_at l k g))
        ∙ sym (ap (λ v. slice_index (interior l).low k + v) (listed_at (part_along l axis end half i) k g))
        ∙ sym (added_at (interior l).low (listed (part_along l axis end half i)) k g)

-- a coarser sender, and how it stands to the receiver
pub record Above (b : FieldBlock) (axis : ℕ) (high : Bool) (o : Loc) : Type 0 where
  pub at : Loc
  pub meets : across b.mesh.shape b.leaf axis high ≡ Some at
  pub above : parent b.mesh.shape.dims at ≡ o
  pub none : is_node b.mesh.shape (is_inner b.mesh) at ≡ false
  pub level : o.level + 1 ≡ b.leaf.level
  pub at_level : at.level ≡ b.leaf.level
  pub half : axis_of at axis % 2 ≡ cond high 0 1
  pub leaf : IsLeaf b.mesh.shape (is_inner b.mesh) o
  pub others : (k : ℕ) → k < 3 → ¬ (k ≡ axis) → axis_of at k ≡ axis_of b.leaf k
  pub along : (k : ℕ) → k < 3 → axis_of o k ≡ axis_of at k / factor b.mesh.shape.dims k

moved_else : (c : Loc) (axis y k : ℕ) → axis < 3 → k < 3 → ¬ (k ≡ axis) → axis_of (moved c axis y) k ≡ axis_of c k
moved_else c zero y zero h g d = absurd (d refl)
moved_else c zero y (suc zero) h g d = refl
moved_else c zero y (suc (suc k)) h g d = refl
moved_else c (suc zero) y zero h g d = refl
moved_else c (suc zero) y (suc zero) h g d = absurd (d refl)
moved_else c (suc zero) y (suc (suc k)) h g d = refl
moved_else c (suc (suc a)) y zero h g d = refl
moved_else c (suc (suc a)) y (suc zero) h g d = refl
moved_else c (suc (suc zero)) y (suc (suc zero)) h g d = absurd (d refl)
moved_else c (suc (suc a)) y (suc (suc (suc k))) h g d = absurd (omega arith)
moved_else c (suc (suc (suc a))) y k h g d = absurd (omega arith)

parent_along : (d : ℕ) (c : Loc) (k : ℕ) → k < 3 → axis_of (parent d c) k ≡ axis_of c k / factor d k
parent_along d c = each_axis (λ k. axis_of (parent d c) k ≡ axis_of c k / factor d k) refl refl refl

some_is : (x y : Loc) → Some x ≡ Some y → x ≡ y
some_is x y e = cc

not_not : (high : Bool) → ◌≡◌ {A = ℕ} (cond (not (not high)) 0 1) (cond high 0 1)
not_not true = refl
not_not false = refl

either_parity : (x : ℕ) (high : Bool) → (x % 2 ≡ cond high 0 1) ⊎ (x % 2 ≡ cond (not high) 0 1)
either_parity x high = by high (x % 2) (omega arith)
  where
    by : (t : Bool) (y : ℕ) → y < 2 → (y ≡ cond t 0 1) ⊎ (y ≡ cond (not t) 0 1)
    by true zero h = inl refl
    by true (suc zero) h = inr refl
    by true (suc (suc y)) h = absurd (omega arith)
    by false zero h = inr refl
    by false (suc zero) h = inl refl
    by false (suc (suc y)) h = absurd (omega arith)

-- the block across is the half of the sender next to the receiver
half_of : (b : FieldBlock) (axis : ℕ) (high : Bool) (at : Loc) → IsSide b axis → across b.mesh.shape b.leaf axis high ≡ Some at → is_node b.mesh.shape (is_inner b.mesh) at ≡ false → axis_of at axis % 2 ≡ cond high 0 1
half_of b axis high at side meets none =
    let s = b.mesh.shape in
    let mesh = side.sound.mesh in
    let most = mesh.shape.most in
    let h = three_axes b axis side.sound side.used in
    let used = used_in b axis side.sound side.used in
    let deep = not_node s (is_inner b.mesh) at none in
    let level = crossed_level s b.leaf axis high at meets in
    let inside = (across-touches s b.leaf at axis high side.sound.leaf.inside h meets).inside in
    elim (either_parity (axis_of at axis) high) [
      | inl e ↦ e
      | inr e ↦
          let (d, crosses, siblings) = across-sibling s most at axis (not high) used inside deep.0 e in
          let back = across-back s b.leaf at axis high side.sound.leaf.inside h meets in
          let one : d ≡ b.leaf = some_is d b.leaf (sym crosses ∙ back) in
          let up : is_inner b.mesh (parent s.dims at) ≡ true = ap (is_inner b.mesh) (sym siblings ∙ ap (parent s.dims) one) ∙ node_parent s (is_inner b.mesh) b.leaf (subst (λ v. 1 ≤ v) level deep.0) side.sound.leaf.node in
          absurd (deep.1 up)
    ]

pub above_is : (b : FieldBlock) (axis : ℕ) (high : Bool) (o : Loc) → IsSide b axis → behind_side b axis high ≡ coarse o → Above b axis high o
above_is b axis high o side is =
    let s = b.mesh.shape in
    let x = coarse_met b axis high o is in
    let at : Loc = x.0.at in
    let meets = x.0.meets in
    let deep = not_node s (is_inner b.mesh) at x.0.node_is in
    let level = crossed_level s b.leaf axis high at meets in
    let up : o.level ≡ at.level - 1 = ap (λ (v : Loc). v.level) (sym x.1) in
    let d1 = deep.0 in
    let h = three_axes b axis side.sound side.used in
    record {
      at = at;
      meets = meets;
      above = x.1;
      none = x.0.node_is;
      level = omega (arith, up, d1, level);
      at_level = level;
      half = half_of b axis high at side meets x.0.node_is;
      leaf = named_leaf b axis high o side (subst (λ (v : Behind). Names v o) (sym is) refl);
      others = λ k g d. ap (λ (v : Loc). axis_of v k) (across-moved s b.leaf at axis high meets) ∙ moved_else b.leaf axis (axis_of at axis) k h g d;
      along = λ k g. ap (λ (v : Loc). axis_of v k) (sym x.1) ∙ parent_along s.dims at k g;
    }

-- along each axis
pub sized_at : (b : FieldBlock) (k : ℕ) → IsFieldBlock b → k < 3 → Sized (nat_lt k b.mesh.shape.dims) (cells_along b.mesh k)
sized_at b k sound g = sized b.mesh.shape.dims k (cells_along b.mesh k) (count_at b.mesh.shape.dims k b.mesh.cells (sizes b sound) g)

-- the half along another axis that the receiver covers
covered : (b : FieldBlock) (axis k : ℕ) → IsSide b axis → k < 3 → ¬ (k ≡ axis) → half_along b.layout.dims axis (side_part axis (child_number b.mesh.shape.dims b.leaf)) k ≡ axis_of b.leaf k % factor b.mesh.shape.dims k
covered b axis k side g off =
    let shape = side.sound.mesh.shape in
    ap (λ v. half_along v axis (side_part axis (child_number b.mesh.shape.dims b.leaf)) k) side.sound.layout.dims
    ∙ half_is b.mesh.shape.dims axis k b.leaf shape.least shape.most (used_in b axis side.sound side.used) g off

end_below : (n i : ℕ) (end : Bool) → i < 1 → 1 ≤ n → cond end (n - 1) 0 + i < n
end_below n i true h k = omega arith
end_below n i false h k = omega arith

part_within : (b : FieldBlock) (axis : ℕ) (high : Bool) (i : List ℕ) (k : ℕ) → IsSide b axis → k < 3 → IsWithin (part_extents Coarser b.layout axis) i → part_along b.layout axis (not high) (side_part axis (child_number b.mesh.shape.dims b.leaf)) i k < slice_index b.layout.cells k
part_within b axis high i k side g w =
    let l : Layout = b.layout in
    let h = three_axes b axis side.sound side.used in
    let half : ℕ = side_part axis (child_number b.mesh.shape.dims b.leaf) in
    let extent : (k : ℕ) → k < 3 → slice_index i k < part_extent l axis (layers l axis 2 1) k = each_axis (λ k. slice_index i k < part_extent l axis (layers l axis 2 1) k) w.along1 w.along2 w.along3 in
    let below : slice_index i k < cond (k == axis) (cond (k == axis) 1 (slice_index l.cells k)) (cond (k == axis) 1 (slice_index l.cells k) / factor l.dims k) =
    subst (λ v. slice_index i k < cond (k == axis) v (v / factor l.dims k)) (with_at axis 1 k l.cells h g) (extent k g) in
    split k axis (λ (t : Bool). slice_index i k < cond t (cond t 1 (slice_index l.cells k)) (cond t 1 (slice_index l.cells k) / factor l.dims k) → cond t (cond (not high) (slice_index l.cells axis - 1) 0 + slice_index i k) (half_along l.dims axis half k * (slice_index l.cells k / 2) + slice_index i k) < slice_index l.cells k)
    (λ e c. subst (λ v. cond (not high) (slice_index l.cells axis - 1) 0 + slice_index i k < slice_index l.cells v) (sym e) (end_below (slice_index l.cells axis) (slice_index i k) (not high) c (size_at l axis h).least))
    (λ d c. subst (λ v. v * (slice_index l.cells k / 2) + slice_index i k < slice_index l.cells k) (sym (covered b axis k side g d))
    (subst (λ v. axis_of b.leaf k % factor b.mesh.shape.dims k * (v / 2) + slice_index i k < v) (sym (same_cells b k side.sound))
    (part_below (nat_lt k b.mesh.shape.dims) (cells_along b.mesh k) (axis_of b.leaf k) (slice_index i k) (sized_at b k side.sound g) (subst (λ v. slice_index i k < v) (same_half b k side.sound) c))))
    below

end_first : (F n N x : ℕ) (end : Bool) → n ≡ N → 1 ≤ n → cond end (F + N - 1) F + x ≡ F + (cond end (n - 1) 0 + x)
end_first F n N x true e k = omega arith
end_first F n N x false e k = omega arith

part_starts : (b : FieldBlock) (axis : ℕ) (high : Bool) (o : Loc) (i : List ℕ) (k : ℕ) → IsSide b axis → Above b axis high o → k < 3 →
    (sent_span coarser b.mesh o b.leaf axis high k).first + slice_index i k ≡ axis_of o k * cells_along b.mesh k + part_along b.layout axis (not high) (side_part axis (child_number b.mesh.shape.dims b.leaf)) i k
part_starts b axis high o i k side x g =
    let l : Layout = b.layout in
    let h = three_axes b axis side.sound side.used in
    let half : ℕ = side_part axis (child_number b.mesh.shape.dims b.leaf) in
    let N : ℕ = cells_along b.mesh k in
    let F : ℕ = axis_of o k * N in
    let D : ℕ = b.mesh.shape.dims in
    split k axis (λ (t : Bool). (cond t (at_end (not high) 1 (own_span b.mesh o k)) (coarse_span b.mesh b.leaf k)).first + slice_index i k ≡ F + cond t (cond (not high) (slice_index l.cells axis - 1) 0 + slice_index i k) (half_along l.dims axis half k * (slice_index l.cells k / 2) + slice_index i k))
    (λ e. end_first F (slice_index l.cells axis) N (slice_index i k) (not high) (ap (λ v. slice_index l.cells v) (sym e) ∙ same_cells b k side.sound) (size_at l axis h).least)
    (λ d. part_first (nat_lt k D) N (axis_of b.leaf k) (slice_index i k) (sized_at b k side.sound g)
    ∙ sym (ap (λ v. v * N + (axis_of b.leaf k % factor D k * (N / 2) + slice_index i k)) (x.along k g ∙ ap (λ v. v / factor D k) (x.others k g d)))
    ∙ sym (ap (λ v. F + (v * (N / 2) + slice_index i k)) (covered b axis k side g d))
    ∙ sym (ap (λ v. F + (half_along l.dims axis half k * (v / 2) + slice_index i k)) (same_cells b k side.sound)))

-- the index that a cell of the region has in the sender
abbrev pub coarser_place : FieldBlock → ℕ → Bool → List ℕ → List ℕ
coarser_place b axis high i = listed (part_along b.layout axis (not high) (side_part axis (child_number b.mesh.shape.dims b.leaf)) i)

pub coarser_within : (b : FieldBlock) (axis : ℕ) (high : Bool) (i : List ℕ) → IsSide b axis → IsWithin (part_extents Coarser b.layout axis) i → IsWithin b.layout.cells (coarser_place b axis high i)
coarser_within b axis high i side w = record { along1 = part_within b axis high i 0 side (omega arith) w; along2 = part_within b axis high i 1 side (omega arith) w; along3 = part_within b axis high i 2 side (omega arith) w }

pub coarser_is : (b : FieldBlock) (axis : ℕ) (high : Bool) (o : Loc) (i : List ℕ) → IsSide b axis → Above b axis high o →
    cell_in b.mesh o (coarser_place b axis high i) ≡ cell_by o.level (sent_span coarser b.mesh o b.leaf axis high 0) (sent_span coarser b.mesh o b.leaf axis high 1) (sent_span coarser b.mesh o b.leaf axis high 2) i
coarser_is b axis high o i side x =
    let m : Mesh = b.mesh in
    same_as (cell_by o.level (sent_span coarser m o b.leaf axis high 0) (sent_span coarser m o b.leaf axis high 1) (sent_span coarser m o b.leaf axis high 2) i) (cell_in m o (coarser_place b axis high i)) refl
    (sym (part_starts b axis high o i 0 side x (omega arith))) (sym (part_starts b axis high o i 1 side x (omega arith))) (sym (part_starts b axis high o i 2 side x (omega arith)))

coarser_cell : (b : FieldBlock) (axis : ℕ) (high : Bool) (o : Loc) (cells i : List ℕ) → IsSide b axis → Above b axis high o → HasInterior (on_block b o) cells → IsWithin (part_extents Coarser b.layout axis) i →
    slice_index cells (place_in b.layout (sent Coarser b.layout axis (not high) (side_part axis (child_number b.mesh.shape.dims b.leaf))) i) ≡ look b.mesh b.field (cell_by o.level (sent_span coarser b.mesh o b.leaf axis high 0) (sent_span coarser b.mesh o b.leaf axis high 1) (sent_span coarser b.mesh o b.leaf axis high 2) i)
coarser_cell b axis high o cells i side x has w =
    let l : Layout = b.layout in
    let sound = side.sound in
    let h = three_axes b axis sound side.used in
    let q : List ℕ = coarser_place b axis high i in
    ap (slice_index cells) (part_place l axis (not high) (side_part axis (child_number b.mesh.shape.dims b.leaf)) i side.used h (size_at l axis h).least)
    ∙ sym (has_look b o cells q (leaf_block b o sound x.leaf) has (in_mesh b q sound (coarser_within b axis high i side w)))
    ∙ ap (look b.mesh b.field) (coarser_is b axis high o i side x)

pub coarser_sends : CoarserSends
coarser_sends b axis high o cells side is has =
    let m : Mesh = b.mesh in
    let x = above_is b axis high o side is in
    let level = x.level in
    box_is o.level (sent_span coarser m o b.leaf axis high 0) (sent_span coarser m o b.leaf axis high 1) (sent_span coarser m o b.leaf axis high 2) (part_extents Coarser b.layout axis) (look m b.field)
    (part_cell Coarser b.layout axis (not high) (side_part axis (child_number m.shape.dims b.leaf)) cells)
    (coarser_extents b axis high o b.leaf side.sound (three_axes b axis side.sound side.used))
    (λ i w. coarser_cell b axis high o cells i side x has w)
    ∙ sym (region_of m b.field o b.leaf axis high coarser (coarser_kind o b.leaf (omega arith)))

-- the coarser cell of a ghost
down_within : (b : FieldBlock) (axis : ℕ) (high : Bool) (layer : ℕ) (i : List ℕ) (k : ℕ) → IsSide b axis → layer < 2 → k < 3 → IsWithin b.layout.cells i →
    slice_index (layer_index axis high layer i) k / factor b.mesh.shape.dims k < part_extent b.layout axis (layers b.layout axis 2 1) k
down_within b axis high layer i k side few g w =
    let l : Layout = b.layout in
    let D : ℕ = b.mesh.shape.dims in
    let h = three_axes b axis side.sound side.used in
    let used = used_in b axis side.sound side.used in
    subst (λ v. v / factor D k < part_extent l axis (layers l axis 2 1) k) (sym (with_at axis (cond high layer (1 - layer)) k i h g))
    (subst (λ v. cond (k == axis) (cond high layer (1 - layer)) (slice_index i k) / factor D k < cond (k == axis) v (v / factor l.dims k)) (sym (with_at axis 1 k l.cells h g))
    (split k axis (λ (t : Bool). cond t (cond high layer (1 - layer)) (slice_index i k) / factor D k < cond t (cond t 1 (slice_index l.cells k)) (cond t 1 (slice_index l.cells k) / factor l.dims k))
    (λ e. subst (λ v. cond high layer (1 - layer) / v < 1) (sym (two_parts D k (subst (λ v. v < D) (sym e) used))) (half_layer layer high few))
    (λ d. subst (λ v. slice_index i k / factor D k < v) (sym (same_half b k side.sound)) (half_within (nat_lt k D) (cells_along b.mesh k) (slice_index i k) (sized_at b k side.sound g) (subst (λ v. slice_index i k < v) (same_cells b k side.sound) (within_along l.cells i k w g))))))

halves : (x : ℕ) (high : Bool) → x % 2 ≡ cond high 0 1 → x ≡ 2 * (x / 2) + cond high 0 1
halves x true e = omega arith
halves x false e = omega arith

coarser_ghost : (b : FieldBlock) (axis : ℕ) (high : Bool) (o : Loc) (layer : ℕ) (i : List ℕ) (k : ℕ) → IsSide b axis → (x : Above b axis high o) → layer < 2 → k < 3 →
    (sent_span coarser b.mesh o b.leaf axis high k).first + slice_index (layer_index axis high layer i) k / factor b.mesh.shape.dims k ≡ (axis_of x.at k * cells_along b.mesh k + slice_index (across_index b.mesh axis high layer i) k) / factor b.mesh.shape.dims k
coarser_ghost b axis high o layer i k side x few g =
    let D : ℕ = b.mesh.shape.dims in
    let h = three_axes b axis side.sound side.used in
    let used = used_in b axis side.sound side.used in
    let N : ℕ = cells_along b.mesh k in
    let A : ℕ = axis_of x.at k in
    let R : ℕ = cells_along b.mesh axis in
    ap (λ v. (sent_span coarser b.mesh o b.leaf axis high k).first + v / factor D k) (with_at axis (cond high layer (1 - layer)) k i h g)
    ∙ split k axis (λ (t : Bool). (cond t (at_end (not high) 1 (own_span b.mesh o k)) (coarse_span b.mesh b.leaf k)).first + cond t (cond high layer (1 - layer)) (slice_index i k) / factor D k ≡ (A * N + cond t (layer_along R high layer) (slice_index i k)) / factor D k)
    (λ e.
    let u : k < D = subst (λ v. v < D) (sym e) used in
    let two = two_parts D k u in
    let size = sized_at b k side.sound g in
    let on = lt_test k D u in
    let half : A % 2 ≡ cond high 0 1 = subst (λ v. axis_of x.at v % 2 ≡ cond high 0 1) (sym e) x.half in
    subst (λ v. cond (not high) (axis_of o k * N + N - 1) (axis_of o k * N) + cond high layer (1 - layer) / v ≡ (A * N + layer_along R high layer) / v) (sym two)
    (subst (λ v. cond (not high) (axis_of o k * N + N - 1) (axis_of o k * N) + cond high layer (1 - layer) / 2 ≡ (A * N + layer_along v high layer) / 2) (ap (cells_along b.mesh) e)
    (end_down (axis_of o k) A N layer high few (size.wide on) (size.even on) (halves A high half ∙ ap (λ v. 2 * v + cond high 0 1) (sym (x.along k g ∙ ap (λ v. A / v) two))))))
    (λ d. ap (λ v. v * (N / factor D k) + slice_index i k / factor D k) (sym (x.others k g d)) ∙ half_down (nat_lt k D) N A (slice_index i k) (sized_at b k side.sound g))
    ∙ sym (ap (λ v. (A * N + v) / factor D k) (with_at axis (layer_along R high layer) k i h g))
  where
    lt_test : (a b : ℕ) → a < b → nat_lt a b ≡ true
    lt_test a b l = lt-ltb a b l

-- and which of the finer cells in it the ghost is
digit_same : (b : FieldBlock) (axis : ℕ) (high : Bool) (layer : ℕ) (i : List ℕ) (k : ℕ) → IsSide b axis → layer < 2 → k < 3 →
    slice_index (layer_index axis high layer i) k % factor b.mesh.shape.dims k ≡ slice_index (across_index b.mesh axis high layer i) k % factor b.mesh.shape.dims k
digit_same b axis high layer i k side few g =
    let D : ℕ = b.mesh.shape.dims in
    let h = three_axes b axis side.sound side.used in
    let used = used_in b axis side.sound side.used in
    let R : ℕ = cells_along b.mesh axis in
    let size = sized_at b axis side.sound h in
    let on = lt-ltb axis D used in
    ap (λ v. v % factor D k) (with_at axis (cond high layer (1 - layer)) k i h g)
    ∙ split k axis (λ (t : Bool). cond t (cond high layer (1 - layer)) (slice_index i k) % factor D k ≡ cond t (layer_along R high layer) (slice_index i k) % factor D k)
    (λ e. subst (λ v. cond high layer (1 - layer) % v ≡ layer_along R high layer % v) (sym (two_parts D k (subst (λ v. v < D) (sym e) used))) (end_digit R layer high few (size.wide on) (size.even on)))
    (λ d. refl)
    ∙ sym (ap (λ v. v % factor D k) (with_at axis (layer_along R high layer) k i h g))

number_same : (b : FieldBlock) (axis : ℕ) (high : Bool) (layer : ℕ) (i : List ℕ) → IsSide b axis → layer < 2 →
    part_number (factors b.mesh.shape.dims) (layer_index axis high layer i) ≡ number_in_coarser b.mesh.shape.dims (across_index b.mesh axis high layer i)
number_same b axis high layer i side few =
    let D : ℕ = b.mesh.shape.dims in
    let r : List ℕ = layer_index axis high layer i in
    let q : List ℕ = across_index b.mesh axis high layer i in
    let shape = side.sound.mesh.shape in
    number_digits D (slice_index r 0) (slice_index r 1) (slice_index r 2) shape.least shape.most
    ∙ ap (λ v. v + 2 * (slice_index r 1 % factor D 1) + 4 * (slice_index r 2 % factor D 2)) (digit_same b axis high layer i 0 side few (omega arith))
    ∙ ap (λ v. slice_index q 0 % factor D 0 + 2 * v + 4 * (slice_index r 2 % factor D 2)) (digit_same b axis high layer i 1 side few (omega arith))
    ∙ ap (λ v. slice_index q 0 % factor D 0 + 2 * (slice_index q 1 % factor D 1) + 4 * v) (digit_same b axis high layer i 2 side few (omega arith))

pub coarser_sees : CoarserSees
coarser_sees b axis high o half cells side is given i w at = both_layers b axis high cells i each
  where
    m : Mesh
    m = b.mesh

    l : Layout
    l = b.layout

    D : ℕ
    D = b.mesh.shape.dims

    h : axis < 3
    h = three_axes b axis side.sound side.used

    x : Above b axis high o
    x = above_is b axis high o side is

    beside : IsBeside b axis high i
    beside = record { sound = side.sound; used = side.used; within = w; at = at }

    each : (layer : ℕ) → layer < 2 → slice_index cells (ghost_place b.layout axis high layer i) ≡ seen_in_layer b i axis high layer
    each layer few =
        let r : List ℕ = layer_index axis high layer i in
        let q : List ℕ = across_index m axis high layer i in
        let c : Loc = cell_in m x.at q in
        let s1 : Span = sent_span coarser m o b.leaf axis high 0 in
        let s2 : Span = sent_span coarser m o b.leaf axis high 1 in
        let s3 : Span = sent_span coarser m o b.leaf axis high 2 in
        let e : List ℕ = part_extents Coarser l axis in
        let u : List ℕ = coarsened (factors D) r in
        let level = x.level in
        let at_level = x.at_level in
        let within : IsWithin e u = record { along1 = down_within b axis high layer i 0 side few (omega arith) w; along2 = down_within b axis high layer i 1 side few (omega arith) w; along3 = down_within b axis high layer i 2 side few (omega arith) w } in
        let part : List ℕ = region m b.field o b.leaf axis high in
        let coarse_cell : at_index e part u ≡ look m b.field (parent D c) =
        ap (λ v. slice_index v (number_of e u)) (region_of m b.field o b.leaf axis high coarser (coarser_kind o b.leaf (omega arith)))
        ∙ at_box o.level s1 s2 s3 e (look m b.field) u (coarser_extents b axis high o b.leaf side.sound h) within
        ∙ ap (look m b.field) (same_as (parent D c) (cell_by o.level s1 s2 s3 u) (omega arith)
        (coarser_ghost b axis high o layer i 0 side x few (omega arith)) (coarser_ghost b axis high o layer i 1 side x few (omega arith)) (coarser_ghost b axis high o layer i 2 side x few (omega arith))) in
        let none : is_node m.shape (is_inner m) (block_of m c) ≡ false = ap (is_node m.shape (is_inner m)) (block_of_cell_in m x.at q (within_across b axis high i layer beside few)) ∙ x.none in
        ap (slice_index cells) (ghost_in_layers l axis high layer i h)
        ∙ given r (layer_within l axis high layer i h few w)
        ∙ ap (λ d. share_in (factors d) (at_index e part) r) side.sound.layout.dims
        ∙ ap (λ v. share v (parts D) (part_number (factors D) r)) coarse_cell
        ∙ ap (share (look m b.field (parent D c)) (parts D)) (number_same b axis high layer i side few ∙ sym (number_of_cell m x.at q (sizes b side.sound)))
        ∙ sym ((look_law m b.field c side.sound.mesh).coarser none)
        ∙ sym (layer_look b axis high x.at i layer beside few x.meets)
