-- The ghosts that finer leaves give.
use Rattle.std.proofs.Common.{◌≡◌, ◌==◌, ℕ, ◌+◌, ◌-◌, ◌*◌, ◌/◌, ◌%◌, ◌<◌, ◌≤◌, Bool, true, false, cond, not, nat_lt, List, Contains, refl, arith, ap, subst, sym, ◌∙◌, slice_index}
use Rattle.std.proofs.lemmas.Nat.{mod_below}
use Rattle.morton_order.specs.declared.space.Loc.{Loc}
use Rattle.morton_order.specs.Space.{axis_of, child, child_number, factor, parts}
use Rattle.morton_order.proofs.Touching.{same_as}
use Rattle.block_tree.proofs.Behinds.{number_of_child}
use Rattle.mesh_rules.specs.Mesh.{Mesh, cells_along}
use Rattle.mesh_rules.specs.Look.{look}
use Rattle.mesh_rules.specs.Regions.{Span, at_end, coarse_span, finer, sent_span}
use Rattle.block_layout.specs.declared.layout.Layout.{Layout}
use Rattle.block_layout.specs.Indices.{IsWithin, added, number_of, with_along}
use Rattle.block_layout.specs.Layouts.{ghost_layers}
use Rattle.block_layout.specs.Regions.{Region, beside_part, ghosts, half_along, interior, part_extent, part_low}
use Rattle.block_geometry.specs.Blocks.{FieldBlock, cell_in, ghost_along, ghost_place}
use Rattle.block_geometry.proofs.Seen.{same_cells, three_axes}
use Rattle.block_regions.specs.Written.{place_in}
use Rattle.ghost_laws.specs.Given.{IsBeside}
use Rattle.ghost_laws.specs.Layers.{across_index, layer_along, seen_in_layer}
use Rattle.ghost_laws.specs.Refined.{LiesInChild, child_at, half_cells, halves_of}
use Rattle.ghost_laws.proofs.Layers.{layer_look, sizes, used_in, within_across}
use Rattle.ghost_laws.proofs.Meeting.{lies_along, sender_half, two_parts}
use Rattle.ghost_laws.proofs.Senders.{lies_in_child}
use Rattle.ghost_buffers.specs.declared.part.How.TheVariants.{Finer}
use Rattle.ghost_buffers.specs.Parts.{part_extents}
use Rattle.letter_laws.specs.Sides.{IsSide, side_part}
use Rattle.letter_laws.specs.Ghosts.{FinerCovers, FinerSees}
use Rattle.letter_laws.proofs.Along.{added_at, each_axis, ghosts_low, interior_at, listed, listed_at, same_place, split, with_at}
use Rattle.letter_laws.proofs.Behinds.{child_among, fine_met}
use Rattle.letter_laws.proofs.Boxes.{at_box, cell_by}
use Rattle.letter_laws.proofs.CoarserLevel.{sized_at}
use Rattle.letter_laws.proofs.Halves.{half_is}
use Rattle.letter_laws.proofs.FinerHalves.{child_first, cut_half, end_layers, half_small, half_start, halves_below, in_half, number_halves, side_at_half}
use Rattle.letter_laws.proofs.FinerLevel.{Below, below_is, half_row, wide_half}
use Rattle.letter_laws.proofs.SameLevel.{both_layers}
use Rattle.letter_laws.proofs.Spans.{finer_extents, finer_kind, region_of, same_half, some_half}

-- a ghost of a layer, by its index in the part of the side
abbrev pub part_ghost : FieldBlock → ℕ → Bool → ℕ → List ℕ → ℕ → ℕ
part_ghost b axis high layer i k = cond (k == axis) (cond high layer (1 - layer)) (slice_index i k % half_row b k)

-- which half of a row it lies in
pub lies_off : (b : FieldBlock) (axis : ℕ) (high : Bool) (j layer : ℕ) (i : List ℕ) (k : ℕ) → IsSide b axis → LiesInChild b.mesh j (across_index b.mesh axis high layer i) → k < 3 → ¬ (k ≡ axis) → slice_index i k / half_row b k ≡ slice_index (halves_of b.mesh.shape.dims j) k
lies_off b axis high j layer i k side lies g off =
    let h = three_axes b axis side.sound side.used in
    let q : ℕ = layer_along (cells_along b.mesh axis) high layer in
    let there : cond (k == axis) q (slice_index i k) / half_row b k ≡ slice_index (halves_of b.mesh.shape.dims j) k = ap (λ v. v / half_row b k) (sym (with_at axis q k i h g)) ∙ lies_along b.mesh j (across_index b.mesh axis high layer i) k g lies in
    split k axis (λ (t : Bool). cond t q (slice_index i k) / half_row b k ≡ slice_index (halves_of b.mesh.shape.dims j) k → slice_index i k / half_row b k ≡ slice_index (halves_of b.mesh.shape.dims j) k) (λ e. absurd (off e)) (λ d c. c) there

-- the part that a child covers begins at its halves
pub covers_half : (b : FieldBlock) (axis k : ℕ) (o : Loc) → IsSide b axis → k < 3 → ¬ (k ≡ axis) →
    half_along b.layout.dims axis (side_part axis (child_number b.mesh.shape.dims o)) k * (slice_index b.layout.cells k / 2) ≡ slice_index (halves_of b.mesh.shape.dims (child_number b.mesh.shape.dims o)) k * half_row b k
covers_half b axis k o side g off =
    let shape = side.sound.mesh.shape in
    let D : ℕ = b.mesh.shape.dims in
    let j : ℕ = child_number D o in
    ap (λ v. half_along v axis (side_part axis j) k * (slice_index b.layout.cells k / 2)) side.sound.layout.dims
    ∙ ap (λ v. v * (slice_index b.layout.cells k / 2)) (half_is D axis k o shape.least shape.most (used_in b axis side.sound side.used) g off ∙ sym (number_halves D o k shape.least shape.most g))
    ∙ ap (λ v. slice_index (halves_of D j) k * (v / 2)) (same_cells b k side.sound)
    ∙ cut_half (nat_lt k D) (cells_along b.mesh k) (slice_index (halves_of D j) k) (sized_at b k side.sound g) (half_small D j k g)

ghost_end : (n layer : ℕ) (high : Bool) → cond high (n + 2 + layer) (1 - layer) ≡ cond high (n + 2) 0 + 0 + cond high layer (1 - layer)
ghost_end n layer true = omega arith
ghost_end n layer false = omega arith

ghost_off : (g i P Z r : ℕ) → P ≡ Z → Z + r ≡ i → g + i ≡ g + P + r
ghost_off g i P Z r e f = omega arith

ghost_in_part : (b : FieldBlock) (axis : ℕ) (high : Bool) (layer : ℕ) (i : List ℕ) (o : Loc) → IsSide b axis → LiesInChild b.mesh (child_number b.mesh.shape.dims o) (across_index b.mesh axis high 0 i) →
    ghost_place b.layout axis high layer i ≡ place_in b.layout (beside_part b.layout axis (side_part axis (child_number b.mesh.shape.dims o)) (ghosts b.layout axis high)) (listed (part_ghost b axis high layer i))
ghost_in_part b axis high layer i o side lies = same_place l (with_along axis (ghost_along l axis high layer) (added (interior l).low i)) (added (beside_part l axis half r).low (listed (part_ghost b axis high layer i))) along
  where
    l : Layout
    l = b.layout

    r : Region
    r = ghosts l axis high

    D : ℕ
    D = b.mesh.shape.dims

    half : ℕ
    half = side_part axis (child_number D o)

    low : (k : ℕ) → k < 3 → slice_index (beside_part l axis half r).low k ≡ part_low l axis half r k
    low = each_axis (λ k. slice_index (beside_part l axis half r).low k ≡ part_low l axis half r k) refl refl refl

    along : (k : ℕ) → k < 3 → slice_index (with_along axis (ghost_along l axis high layer) (added (interior l).low i)) k ≡ slice_index (added (beside_part l axis half r).low (listed (part_ghost b axis high layer i))) k
    along k g =
        let h = three_axes b axis side.sound side.used in
        with_at axis (ghost_along l axis high layer) k (added (interior l).low i) h g
        ∙ ap (λ v. cond (k == axis) (ghost_along l axis high layer) v) (added_at (interior l).low i k g ∙ ap (λ v. v + slice_index i k) (interior_at l k g))
        ∙ split k axis (λ (t : Bool). cond t (ghost_along l axis high layer) (ghost_layers l k + slice_index i k) ≡ cond t (cond high (slice_index l.cells axis + 2) 0) (ghost_layers l k) + cond t 0 (half_along l.dims axis half k * (cond t 2 (slice_index l.cells k) / 2)) + cond t (cond high layer (1 - layer)) (slice_index i k % half_row b k))
        (λ e. ghost_end (slice_index l.cells axis) layer high)
        (λ d. ghost_off (ghost_layers l k) (slice_index i k) (half_along l.dims axis half k * (slice_index l.cells k / 2)) (slice_index (halves_of D (child_number D o)) k * half_row b k) (slice_index i k % half_row b k)
        (covers_half b axis k o side g d) (in_half (slice_index i k) (half_row b k) (slice_index (halves_of D (child_number D o)) k) (lies_off b axis high (child_number D o) 0 i k side lies g d)))
        ∙ sym (ap (λ v. cond (k == axis) (cond high (slice_index l.cells axis + 2) 0) (ghost_layers l k) + cond (k == axis) 0 (half_along l.dims axis half k * (v / 2)) + part_ghost b axis high layer i k) (with_at axis 2 k l.cells h g))
        ∙ sym (ap (λ v. v + cond (k == axis) 0 (half_along l.dims axis half k * (slice_index r.extents k / 2)) + part_ghost b axis high layer i k) (ghosts_low l axis high k h g))
        ∙ sym (ap (λ v. v + part_ghost b axis high layer i k) (low k g))
        ∙ sym (ap (λ v. slice_index (beside_part l axis half r).low k + v) (listed_at (part_ghost b axis high layer i) k g))
        ∙ sym (added_at (beside_part l axis half r).low (listed (part_ghost b axis high layer i)) k g)

layer_below : (layer : ℕ) (high : Bool) → layer < 2 → cond high layer (1 - layer) < 2
layer_below layer true h = h
layer_below layer false h = omega arith

part_within : (b : FieldBlock) (axis : ℕ) (high : Bool) (layer : ℕ) (i : List ℕ) (k : ℕ) → IsSide b axis → layer < 2 → k < 3 → part_ghost b axis high layer i k < part_extent b.layout axis (ghosts b.layout axis high) k
part_within b axis high layer i k side few g =
    let l : Layout = b.layout in
    let h = three_axes b axis side.sound side.used in
    subst (λ v. part_ghost b axis high layer i k < cond (k == axis) v (v / factor l.dims k)) (sym (with_at axis 2 k l.cells h g))
    (split k axis (λ (t : Bool). cond t (cond high layer (1 - layer)) (slice_index i k % half_row b k) < cond t (cond t 2 (slice_index l.cells k)) (cond t 2 (slice_index l.cells k) / factor l.dims k))
    (λ e. layer_below layer high few)
    (λ d. subst (λ v. slice_index i k % half_row b k < v) (sym (same_half b k side.sound)) (mod_below (slice_index i k) (half_row b k) (subst (λ v. 1 ≤ v) (same_half b k side.sound) (some_half l k g)))))

-- the cell that its part has there
finer_ghost : (b : FieldBlock) (axis : ℕ) (high : Bool) (o : Loc) (layer : ℕ) (i : List ℕ) (k : ℕ) → IsSide b axis → (x : Below b axis high o) → layer < 2 → k < 3 → LiesInChild b.mesh (child_number b.mesh.shape.dims o) (across_index b.mesh axis high 0 i) →
    (sent_span finer b.mesh o b.leaf axis high k).first + part_ghost b axis high layer i k ≡ axis_of x.at k * cells_along b.mesh k + slice_index (across_index b.mesh axis high layer i) k
finer_ghost b axis high o layer i k side x few g lies =
    let D : ℕ = b.mesh.shape.dims in
    let h = three_axes b axis side.sound side.used in
    let N : ℕ = cells_along b.mesh k in
    let R : ℕ = cells_along b.mesh axis in
    let H : ℕ = half_row b k in
    let j : ℕ = child_number D o in
    let J : ℕ = slice_index (halves_of D j) k in
    let S : ℕ = axis_of o k * H in
    let W : ℕ = axis_of x.at k * N in
    let two = wide_half b axis side in
    let start : S ≡ W + J * H = ap (λ v. v * H) (x.along k g) ∙ child_first (nat_lt k D) N (axis_of x.at k) J (sized_at b k side.sound g) in
    split k axis (λ (t : Bool). (cond t (at_end (not high) 2 (coarse_span b.mesh o k)) (coarse_span b.mesh o k)).first + cond t (cond high layer (1 - layer)) (slice_index i k % H) ≡ W + cond t (layer_along R high layer) (slice_index i k))
    (λ e. subst (λ v. cond (not high) (S + H - 2) S + cond high layer (1 - layer) ≡ W + layer_along v high layer) (ap (cells_along b.mesh) e)
    (end_layers S W J H N layer high start (ap (slice_index (halves_of D j)) e ∙ x.half)
    (subst (λ v. cells_along b.mesh v ≡ 2 * half_row b v) (sym e) two.1) (subst (λ v. 2 ≤ half_row b v) (sym e) two.0) few))
    (λ d. half_start S W (slice_index i k) H J start (lies_off b axis high j 0 i k side lies g d))
    ∙ sym (ap (λ v. W + v) (with_at axis (layer_along R high layer) k i h g))

pub finer_sees : FinerSees
finer_sees b axis high os o cells side is among given i w at lies = both_layers b axis high cells i each
  where
    m : Mesh
    m = b.mesh

    l : Layout
    l = b.layout

    h : axis < 3
    h = three_axes b axis side.sound side.used

    x : Below b axis high o
    x = below_is b axis high os o side is among

    beside : IsBeside b axis high i
    beside = record { sound = side.sound; used = side.used; within = w; at = at }

    each : (layer : ℕ) → layer < 2 → slice_index cells (ghost_place b.layout axis high layer i) ≡ seen_in_layer b i axis high layer
    each layer few =
        let r : List ℕ = listed (part_ghost b axis high layer i) in
        let s1 : Span = sent_span finer m o b.leaf axis high 0 in
        let s2 : Span = sent_span finer m o b.leaf axis high 1 in
        let s3 : Span = sent_span finer m o b.leaf axis high 2 in
        let e : List ℕ = part_extents Finer l axis in
        let level = x.level in
        let within : IsWithin e r = record { along1 = part_within b axis high layer i 0 side few (omega arith); along2 = part_within b axis high layer i 1 side few (omega arith); along3 = part_within b axis high layer i 2 side few (omega arith) } in
        ap (slice_index cells) (ghost_in_part b axis high layer i o side lies)
        ∙ given r within
        ∙ ap (λ v. slice_index v (number_of e r)) (region_of m b.field o b.leaf axis high finer (finer_kind o b.leaf (omega arith)))
        ∙ at_box b.leaf.level s1 s2 s3 e (look m b.field) r (finer_extents b axis high o b.leaf side.sound h) within
        ∙ ap (look m b.field) (same_as (cell_in m x.at (across_index m axis high layer i)) (cell_by b.leaf.level s1 s2 s3 r) (sym x.at_level)
        (finer_ghost b axis high o layer i 0 side x few (omega arith) lies) (finer_ghost b axis high o layer i 1 side x few (omega arith) lies) (finer_ghost b axis high o layer i 2 side x few (omega arith) lies))
        ∙ sym (layer_look b axis high x.at i layer beside few x.meets)

-- each ghost lies beside one of the leaves
pub finer_covers : FinerCovers
finer_covers b axis high os cells side is each i w at =
    let m : Mesh = b.mesh in
    let D : ℕ = m.shape.dims in
    let shape = side.sound.mesh.shape in
    let h = three_axes b axis side.sound side.used in
    let fit = sizes b side.sound in
    let beside : IsBeside b axis high i = record { sound = side.sound; used = side.used; within = w; at = at } in
    let x = fine_met b axis high os is in
    let q : List ℕ = across_index m axis high 0 i in
    let j : ℕ = child_at m q in
    let lies : LiesInChild m j q = lies_in_child m q fit (within_across b axis high i 0 beside (omega arith)) in
    let half = sender_half b axis high j i 0 beside (omega arith) lies in
    let made : j ≡ j % factor D 0 + 2 * (j / 2 % factor D 1) + 4 * (j / 4 % factor D 2) =
    ap (λ v. v + 2 * (slice_index q 1 / half_cells m 1) + 4 * (slice_index q 2 / half_cells m 2)) lies.along1
    ∙ ap (λ v. j % factor D 0 + 2 * v + 4 * (slice_index q 2 / half_cells m 2)) lies.along2
    ∙ ap (λ v. j % factor D 0 + 2 * (j / 2 % factor D 1) + 4 * v) lies.along3 in
    let few : j < parts D = subst (λ v. v < parts D) (sym made) (halves_below D j shape.least shape.most) in
    let among : Contains os (child D x.at j) = child_among b axis high os j x few (side_at_half D axis j high h (two_parts D axis (used_in b axis side.sound side.used)) half) in
    each (child D x.at j) among i w at (subst (λ v. LiesInChild m v q) (sym (number_of_child D x.at j shape.most shape.least few)) lies)
