-- What is sent across a side: the kind of the sender, and how many cells there are along each axis.
use Rattle.std.proofs.Common.{◌≡◌, ◌==◌, ℕ, ◌/◌, ◌<◌, ◌≤◌, Bool, true, false, cond, not, nat_lt, map, refl, arith, ap, subst, sym, ◌∙◌, slice_index}
use Rattle.std.proofs.lemmas.Bool.{le-ltb, lt-ltb}
use Rattle.morton_order.specs.declared.space.Loc.{Loc}
use Rattle.morton_order.specs.Space.{factor}
use Rattle.mesh_rules.specs.Mesh.{Mesh, cells_along}
use Rattle.mesh_rules.specs.Look.{look}
use Rattle.mesh_rules.specs.Regions.{Sender, Span, at_end, cells_in, coarse_span, coarser, finer, own_span, region, same_level, sender_by, sender_of, sent_level, sent_span}
use Rattle.block_layout.specs.declared.layout.Layout.{Layout}
use Rattle.block_layout.specs.Sizes.{IsCellCount}
use Rattle.block_layout.specs.Indices.{with_along}
use Rattle.block_layout.specs.Regions.{layers, part_extent}
use Rattle.block_geometry.specs.Blocks.{FieldBlock, IsFieldBlock}
use Rattle.block_geometry.proofs.Seen.{same_cells}
use Rattle.ghost_laws.proofs.Layers.{count_at}
use Rattle.ghost_laws.proofs.Sizes.{Sized, cut, sized}
use Rattle.ghost_buffers.specs.declared.part.How.TheVariants.{Same, Finer, Coarser}
use Rattle.ghost_buffers.specs.Parts.{part_extents}
use Rattle.letter_laws.proofs.Along.{split, with_at}
use Rattle.letter_laws.proofs.Boxes.{HasExtents}

-- the region by the kind of its sender
pub region_of : (m : Mesh) (f : ℕ) (from to : Loc) (axis : ℕ) (high : Bool) (how : Sender) → sender_of from to ≡ how →
    region m f from to axis high ≡ map (look m f) (cells_in (sent_level how from to) (sent_span how m from to axis high 0) (sent_span how m from to axis high 1) (sent_span how m from to axis high 2))
region_of m f from to axis high how is =
    ap (λ (h : Sender). map (look m f) (cells_in (sent_level h from to) (sent_span h m from to axis high 0) (sent_span h m from to axis high 1) (sent_span h m from to axis high 2))) is

pub same_kind : (from to : Loc) → from.level ≡ to.level → sender_of from to ≡ same_level
same_kind from to e = ap (λ t. sender_by t (nat_lt from.level to.level)) (le-ltb to.level from.level (omega arith)) ∙ ap (λ t. sender_by false t) (le-ltb from.level to.level (omega arith))

pub finer_kind : (from to : Loc) → to.level < from.level → sender_of from to ≡ finer
finer_kind from to e = ap (λ t. sender_by t (nat_lt from.level to.level)) (lt-ltb to.level from.level e)

pub coarser_kind : (from to : Loc) → from.level < to.level → sender_of from to ≡ coarser
coarser_kind from to e = ap (λ t. sender_by t (nat_lt from.level to.level)) (le-ltb to.level from.level (omega arith)) ∙ ap (λ t. sender_by false t) (lt-ltb from.level to.level e)

-- the sizes of a layout along an axis
pub size_at : (l : Layout) (k : ℕ) → k < 3 → IsCellCount l.dims k (slice_index l.cells k)
size_at l k h = count_at l.dims k l.cells l.sound h

half_some : (used : Bool) (n : ℕ) → Sized used n → 1 ≤ n → 1 ≤ n / cut used
half_some true n s h = let w = s.wide refl in omega arith
half_some false n s h = omega arith

pub some_half : (l : Layout) (k : ℕ) → k < 3 → 1 ≤ slice_index l.cells k / factor l.dims k
some_half l k h = let c = size_at l k h in half_some (nat_lt k l.dims) (slice_index l.cells k) (sized l.dims k (slice_index l.cells k) c) c.least

-- halves of the mesh's blocks are those of the layout
pub same_half : (b : FieldBlock) (k : ℕ) → IsFieldBlock b → slice_index b.layout.cells k / factor b.layout.dims k ≡ cells_along b.mesh k / factor b.mesh.shape.dims k
same_half b k sound =
    ap (λ v. v / factor b.layout.dims k) (same_cells b k sound)
    ∙ ap (λ v. cells_along b.mesh k / factor v k) sound.layout.dims

-- extents
whole_extent : (b : FieldBlock) (axis depth k : ℕ) (a c : Span) → IsFieldBlock b → axis < 3 → k < 3 → a.len ≡ depth → c.len ≡ cells_along b.mesh k → (cond (k == axis) a c).len ≡ slice_index (with_along axis depth b.layout.cells) k
whole_extent b axis depth k a c sound h g ea ec =
    split k axis (λ (t : Bool). (cond t a c).len ≡ cond t depth (slice_index b.layout.cells k)) (λ e. ea) (λ d. ec ∙ sym (same_cells b k sound))
    ∙ sym (with_at axis depth k b.layout.cells h g)

half_extent : (b : FieldBlock) (axis from depth k : ℕ) (a c : Span) → IsFieldBlock b → axis < 3 → k < 3 → a.len ≡ depth → c.len ≡ cells_along b.mesh k / factor b.mesh.shape.dims k → (cond (k == axis) a c).len ≡ part_extent b.layout axis (layers b.layout axis from depth) k
half_extent b axis from depth k a c sound h g ea ec =
    split k axis (λ (t : Bool). (cond t a c).len ≡ cond t (cond t depth (slice_index b.layout.cells k)) (cond t depth (slice_index b.layout.cells k) / factor b.layout.dims k)) (λ e. ea) (λ d. ec ∙ sym (same_half b k sound))
    ∙ sym (ap (λ v. cond (k == axis) v (v / factor b.layout.dims k)) (with_at axis depth k b.layout.cells h g))

whole_some : (l : Layout) (axis depth k : ℕ) → axis < 3 → k < 3 → 1 ≤ depth → 1 ≤ slice_index (with_along axis depth l.cells) k
whole_some l axis depth k h g some =
    subst (λ v. 1 ≤ v) (sym (with_at axis depth k l.cells h g)) (split k axis (λ (t : Bool). 1 ≤ cond t depth (slice_index l.cells k)) (λ e. some) (λ d. (size_at l k g).least))

part_some : (l : Layout) (axis from depth k : ℕ) → axis < 3 → k < 3 → 1 ≤ depth → 1 ≤ part_extent l axis (layers l axis from depth) k
part_some l axis from depth k h g some =
    subst (λ v. 1 ≤ cond (k == axis) v (v / factor l.dims k)) (sym (with_at axis depth k l.cells h g))
    (split k axis (λ (t : Bool). 1 ≤ cond t (cond t depth (slice_index l.cells k)) (cond t depth (slice_index l.cells k) / factor l.dims k)) (λ e. some) (λ d. some_half l k g))

pub same_extents : (b : FieldBlock) (axis : ℕ) (high : Bool) (from to : Loc) → IsFieldBlock b → axis < 3 →
    HasExtents (sent_span same_level b.mesh from to axis high 0) (sent_span same_level b.mesh from to axis high 1) (sent_span same_level b.mesh from to axis high 2) (part_extents Same b.layout axis)
same_extents b axis high from to sound h =
    let along : (k : ℕ) → k < 3 → (sent_span same_level b.mesh from to axis high k).len ≡ slice_index (with_along axis 2 b.layout.cells) k =
    λ k g. whole_extent b axis 2 k (at_end (not high) 2 (own_span b.mesh from k)) (own_span b.mesh from k) sound h g refl refl in
    record {
      along1 = along 0 (omega arith);
      along2 = along 1 (omega arith);
      along3 = along 2 (omega arith);
      some1 = whole_some b.layout axis 2 0 h (omega arith) (omega arith);
      some2 = whole_some b.layout axis 2 1 h (omega arith) (omega arith);
    }

pub finer_extents : (b : FieldBlock) (axis : ℕ) (high : Bool) (from to : Loc) → IsFieldBlock b → axis < 3 →
    HasExtents (sent_span finer b.mesh from to axis high 0) (sent_span finer b.mesh from to axis high 1) (sent_span finer b.mesh from to axis high 2) (part_extents Finer b.layout axis)
finer_extents b axis high from to sound h =
    let along : (k : ℕ) → k < 3 → (sent_span finer b.mesh from to axis high k).len ≡ part_extent b.layout axis (layers b.layout axis 0 2) k =
    λ k g. half_extent b axis 0 2 k (at_end (not high) 2 (coarse_span b.mesh from k)) (coarse_span b.mesh from k) sound h g refl refl in
    record {
      along1 = along 0 (omega arith);
      along2 = along 1 (omega arith);
      along3 = along 2 (omega arith);
      some1 = part_some b.layout axis 0 2 0 h (omega arith) (omega arith);
      some2 = part_some b.layout axis 0 2 1 h (omega arith) (omega arith);
    }

pub coarser_extents : (b : FieldBlock) (axis : ℕ) (high : Bool) (from to : Loc) → IsFieldBlock b → axis < 3 →
    HasExtents (sent_span coarser b.mesh from to axis high 0) (sent_span coarser b.mesh from to axis high 1) (sent_span coarser b.mesh from to axis high 2) (part_extents Coarser b.layout axis)
coarser_extents b axis high from to sound h =
    let along : (k : ℕ) → k < 3 → (sent_span coarser b.mesh from to axis high k).len ≡ part_extent b.layout axis (layers b.layout axis 2 1) k =
    λ k g. half_extent b axis 2 1 k (at_end (not high) 1 (own_span b.mesh from k)) (coarse_span b.mesh to k) sound h g refl refl in
    record {
      along1 = along 0 (omega arith);
      along2 = along 1 (omega arith);
      along3 = along 2 (omega arith);
      some1 = part_some b.layout axis 2 1 0 h (omega arith) (omega arith);
      some2 = part_some b.layout axis 2 1 1 h (omega arith) (omega arith);
    }
