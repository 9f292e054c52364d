-- Parts of letters are made of own totals.
use Rattle.std.proofs.Common.{◌≡◌, ◌==◌, ℕ, ◌+◌, ◌-◌, ◌*◌, ◌/◌, ◌<◌, ◌≤◌, Bool, true, false, cond, not, nat_lt, List, [], refl, arith, ap, subst, sym, ◌∙◌, slice_index}
use Rattle.mesh_laws.proofs.Totals.{sum_to-same}
use Rattle.morton_order.specs.Space.{factor}
use Rattle.block_layout.specs.declared.layout.Layout.{Layout}
use Rattle.block_layout.specs.Indices.{IsWithin, added, count_of, index_of}
use Rattle.block_layout.specs.Layouts.{ghost_layers, place}
use Rattle.block_layout.specs.Regions.{Region, beside_part, half_along, inner_layers, interior, part_extent, part_low}
use Rattle.block_layout.proofs.Boxes.{index_below}
use Rattle.block_geometry.specs.Blocks.{own_place}
use Rattle.block_geometry.proofs.Rows.{two_layers}
use Rattle.block_regions.specs.Written.{cell_in}
use Rattle.ghost_laws.proofs.Sizes.{sized}
use Rattle.restrict_prolong.proofs.Restored.{part_within}
use Rattle.restrict_prolong.specs.Refined.{factors, part_index}
use Rattle.ghost_buffers.specs.declared.part.How.{How}
use Rattle.ghost_buffers.specs.declared.part.How.TheVariants.{Same, Finer, Coarser}
use Rattle.ghost_buffers.specs.Parts.{part_cell, part_extents, part_of, sent}
use Rattle.ghost_buffers.proofs.PartExtents.{refined_finer}
use Rattle.letter_laws.proofs.Along.{each_axis, inner_low, interior_at, layers_low, split, with_at}
use Rattle.letter_laws.proofs.Boxes.{table_same}
use Rattle.letter_laws.proofs.Spans.{size_at}
use Rattle.cycle_kernels.specs.Lists.{less, own_totals, with_ghosts}
use Rattle.cycle_kernels.specs.Letters.{how_sent, part_covered}
use Rattle.cycle_kernel_laws.proofs.Apart.{InAlong, Inside, axis_three, half_of_row, used_here}
use Rattle.cycle_kernel_laws.proofs.Due.{ghost_link}
use Rattle.cycle_kernel_laws.proofs.Given.{less_within, added_inside, own_total, three}
use Rattle.cycle_kernel_links.specs.Ghosts.{FilledIsSent}
use Rattle.cycle_kernel_links.proofs.Lists.{added_less, own_at}

-- the totals of two lists in the block's own cells are the same
abbrev pub SameOwn : Layout → List ℕ → List ℕ → Type 0
SameOwn l cells other = (i : List ℕ) → IsWithin l.cells i → slice_index cells (own_place l i) ≡ slice_index other (own_place l i)

-- an index of an own cell
pub own_index : (l : Layout) (cells other u : List ℕ) → SameOwn l cells other → Inside (interior l) u → slice_index cells (place l (three u)) ≡ slice_index other (place l (three u))
own_index l cells other u same inside =
    let i : List ℕ = less u (interior l).low in
    let at : place l (three u) ≡ own_place l i = ap (place l) (sym (added_less (interior l).low u (λ k g. (inside k g).least))) in
    ap (slice_index cells) at ∙ same i (less_within (interior l) u inside) ∙ sym (ap (slice_index other) at)

-- layers of the block's own cells next to a side
layers_in : (n g depth x : ℕ) (high : Bool) → g ≡ 2 → depth ≤ n → InAlong (cond high (n + 2 - depth) 2) depth x → InAlong g n x
layers_in n g depth x true e few h = let a = h.least in let b = h.below in record { least = omega (arith, a); below = omega (arith, b) }
layers_in n g depth x false e few h = let a = h.least in let b = h.below in record { least = omega (arith, a); below = omega (arith, b) }

interior_of : (l : Layout) (u : List ℕ) → ((k : ℕ) → k < 3 → InAlong (ghost_layers l k) (slice_index l.cells k) (slice_index u k)) → Inside (interior l) u
interior_of l u h k g = subst (λ v. InAlong v (slice_index l.cells k) (slice_index u k)) (sym (interior_at l k g)) (h k g)

inner_along : (l : Layout) (axis : ℕ) (high : Bool) (depth : ℕ) (u : List ℕ) (k : ℕ) → axis < l.dims → axis < 3 → k < 3 → depth ≤ slice_index l.cells axis → Inside (inner_layers l axis high depth) u → InAlong (ghost_layers l k) (slice_index l.cells k) (slice_index u k)
inner_along l axis high depth u k used h g few inside =
    let both : InAlong (cond (k == axis) (layers_low l axis high depth) (ghost_layers l k)) (cond (k == axis) depth (slice_index l.cells k)) (slice_index u k) =
    subst (λ v. InAlong v (cond (k == axis) depth (slice_index l.cells k)) (slice_index u k)) (inner_low l axis high depth k h g)
    (subst (λ v. InAlong (slice_index (inner_layers l axis high depth).low k) v (slice_index u k)) (with_at axis depth k l.cells h g) (inside k g)) in
    split k axis (λ (t : Bool). InAlong (cond t (layers_low l axis high depth) (ghost_layers l k)) (cond t depth (slice_index l.cells k)) (slice_index u k) → InAlong (ghost_layers l k) (slice_index l.cells k) (slice_index u k))
    (λ e c. layers_in (slice_index l.cells k) (ghost_layers l k) depth (slice_index u k) high (two_layers l k (subst (λ v. v < l.dims) (sym e) used)) (subst (λ v. depth ≤ slice_index l.cells v) (sym e) few)
    (subst (λ v. InAlong (cond high (slice_index l.cells v + 2 - depth) 2) depth (slice_index u k)) (sym e) c))
    (λ d c. c) both

plus_none : (low n x : ℕ) → InAlong (low + 0) n x → InAlong low n x
plus_none low n x h = let a = h.least in let b = h.below in record { least = omega (arith, a); below = omega (arith, b) }

part_along : (l : Layout) (axis : ℕ) (high : Bool) (half : ℕ) (u : List ℕ) (k : ℕ) → axis < l.dims → axis < 3 → k < 3 → 1 ≤ slice_index l.cells axis → Inside (beside_part l axis half (inner_layers l axis high 1)) u → InAlong (ghost_layers l k) (slice_index l.cells k) (slice_index u k)
part_along l axis high half u k used h g few inside =
    let r : Region = inner_layers l axis high 1 in
    let low : slice_index (beside_part l axis half r).low k ≡ part_low l axis half r k = each_axis (λ k. slice_index (beside_part l axis half r).low k ≡ part_low l axis half r k) refl refl refl k g in
    let extent : slice_index (beside_part l axis half r).extents k ≡ part_extent l axis r k = each_axis (λ k. slice_index (beside_part l axis half r).extents k ≡ part_extent l axis r k) refl refl refl k g in
    let size : slice_index r.extents k ≡ cond (k == axis) 1 (slice_index l.cells k) = with_at axis 1 k l.cells h g in
    let both : InAlong (cond (k == axis) (layers_low l axis high 1) (ghost_layers l k) + cond (k == axis) 0 (half_along l.dims axis half k * (cond (k == axis) 1 (slice_index l.cells k) / 2)))
    (cond (k == axis) (cond (k == axis) 1 (slice_index l.cells k)) (cond (k == axis) 1 (slice_index l.cells k) / factor l.dims k)) (slice_index u k) =
    subst (λ v. InAlong (v + cond (k == axis) 0 (half_along l.dims axis half k * (cond (k == axis) 1 (slice_index l.cells k) / 2))) (cond (k == axis) (cond (k == axis) 1 (slice_index l.cells k)) (cond (k == axis) 1 (slice_index l.cells k) / factor l.dims k)) (slice_index u k)) (inner_low l axis high 1 k h g)
    (subst (λ v. InAlong (slice_index r.low k + cond (k == axis) 0 (half_along l.dims axis half k * (v / 2))) (cond (k == axis) v (v / factor l.dims k)) (slice_index u k)) size
    (subst (λ v. InAlong v (part_extent l axis r k) (slice_index u k)) low
    (subst (λ v. InAlong (slice_index (beside_part l axis half r).low k) v (slice_index u k)) extent (inside k g)))) in
    split k axis (λ (t : Bool). InAlong (cond t (layers_low l axis high 1) (ghost_layers l k) + cond t 0 (half_along l.dims axis half k * (cond t 1 (slice_index l.cells k) / 2)))
    (cond t (cond t 1 (slice_index l.cells k)) (cond t 1 (slice_index l.cells k) / factor l.dims k)) (slice_index u k) → InAlong (ghost_layers l k) (slice_index l.cells k) (slice_index u k))
    (λ e c. layers_in (slice_index l.cells k) (ghost_layers l k) 1 (slice_index u k) high (two_layers l k (subst (λ v. v < l.dims) (sym e) used)) (subst (λ v. 1 ≤ slice_index l.cells v) (sym e) few)
    (subst (λ v. InAlong (cond high (slice_index l.cells v + 2 - 1) 2) 1 (slice_index u k)) (sym e) (plus_none (layers_low l axis high 1) 1 (slice_index u k) c)))
    (λ d c. half_of_row (nat_lt k l.dims) (slice_index l.cells k) _ (ghost_layers l k) (slice_index u k) (sized l.dims k (slice_index l.cells k) (size_at l k g)) c) both

four_cells : (l : Layout) (axis : ℕ) → axis < l.dims → axis < 3 → 4 ≤ slice_index l.cells axis
four_cells l axis used h = (size_at l axis h).wide used

-- what is sent are own cells
sent_inside : (how : How) (l : Layout) (axis : ℕ) (high : Bool) (half : ℕ) (u : List ℕ) → axis < l.dims → axis < 3 → Inside (sent how l axis high half) u → Inside (interior l) u
sent_inside Same l axis high half u used h inside = interior_of l u (λ k g. inner_along l axis high 2 u k used h g (let four = four_cells l axis used h in omega (arith, four)) inside)
sent_inside Finer l axis high half u used h inside = interior_of l u (λ k g. inner_along l axis high 4 u k used h g (four_cells l axis used h) inside)
sent_inside Coarser l axis high half u used h inside = interior_of l u (λ k g. part_along l axis high half u k used h g (let four = four_cells l axis used h in omega (arith, four)) inside)

cell_same : (how : How) (l : Layout) (axis : ℕ) (high : Bool) (half : ℕ) (cells other i : List ℕ) → axis < l.dims → axis < 3 → SameOwn l cells other → IsWithin (sent how l axis high half).extents i → cell_in l (sent how l axis high half) cells i ≡ cell_in l (sent how l axis high half) other i
cell_same how l axis high half cells other i used h same w = own_index l cells other (added (sent how l axis high half).low i) same (sent_inside how l axis high half (added (sent how l axis high half).low i) used h (added_inside (sent how l axis high half) i w))

part_cell_same : (how : How) (l : Layout) (axis : ℕ) (high : Bool) (half : ℕ) (cells other i : List ℕ) → axis < l.dims → axis < 3 → SameOwn l cells other → IsWithin (part_extents how l axis) i → part_cell how l axis high half cells i ≡ part_cell how l axis high half other i
part_cell_same Same l axis high half cells other i used h same w = cell_same Same l axis high half cells other i used h same w
part_cell_same Finer l axis high half cells other i used h same w =
    sum_to-same (count_of (factors l.dims)) (λ j. cell_in l (sent Finer l axis high half) cells (part_index (factors l.dims) i j)) (λ j. cell_in l (sent Finer l axis high half) other (part_index (factors l.dims) i j))
    (λ j few. cell_same Finer l axis high half cells other (part_index (factors l.dims) i j) used h same
    (subst (λ (e : List ℕ). IsWithin e (part_index (factors l.dims) i j)) (refined_finer l axis l.sound used) (part_within (factors l.dims) (part_extents Finer l axis) i j few w)))
part_cell_same Coarser l axis high half cells other i used h same w = cell_same Coarser l axis high half cells other i used h same w

pub part_same : (how : How) (l : Layout) (axis : ℕ) (high : Bool) (half : ℕ) (cells other : List ℕ) → axis < l.dims → axis < 3 → SameOwn l cells other → part_of how l axis high half cells ≡ part_of how l axis high half other
part_same how l axis high half cells other used h same =
    table_same (count_of (part_extents how l axis)) (λ k. part_cell how l axis high half cells (index_of (part_extents how l axis) k)) (λ k. part_cell how l axis high half other (index_of (part_extents how l axis) k))
    (λ k few. part_cell_same how l axis high half cells other (index_of (part_extents how l axis) k) used h same (index_below (part_extents how l axis) k few))

pub filled_is_sent : FilledIsSent
filled_is_sent w x cells is due long =
    let l : Layout = w.layout in
    let link = ghost_link w x is.mesh due in
    part_same (how_sent w x) l x.axis (not x.high) (part_covered w x) cells (with_ghosts l (own_totals l cells) []) (used_here w x.axis is link.used) (axis_three w x.axis is link.used)
    (λ i inside. sym (own_total l (own_totals l cells) [] i inside ∙ own_at l cells i inside))
