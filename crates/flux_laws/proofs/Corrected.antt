-- The coarser face's pair is the sum of the finer faces'.
use Rattle.std.proofs.Common.{◌≡◌, ℕ, ◌<◌, ◌≤◌, Bool, true, false, cond, not, Some, List, refl, arith, ap, sym, ◌∙◌, slice_index}
use Rattle.std.specs.Option.{option_map}
use Rattle.morton_order.specs.declared.space.Loc.{Loc}
use Rattle.morton_order.specs.Space.{child, parts}
use Rattle.morton_order.specs.Neighbours.{across}
use Rattle.morton_order.proofs.Family.{parent-child}
use Rattle.block_tree.specs.Behind.{children_at, is_high_half}
use Rattle.block_tree.proofs.Ancestors.{node_parent}
use Rattle.block_tree.proofs.Behinds.{half_passes}
use Rattle.mesh_rules.specs.Sums.{sum_over}
use Rattle.mesh_rules.specs.Mesh.{Mesh, block_of, cells_along, is_inner}
use Rattle.mesh_rules.specs.Faces.{Pair, cell_across, face_pair, face_pair_by, own_pair, sum_pairs}
use Rattle.mesh_laws.proofs.Conditions.{passing_sum}
use Rattle.mesh_laws.proofs.Totals.{sum_to-same}
use Rattle.block_layout.specs.Indices.{with_along}
use Rattle.block_layout.specs.Faces.{face_of}
use Rattle.block_geometry.specs.Blocks.{FieldBlock, IsFieldBlock, cell_in, end_of}
use Rattle.block_geometry.specs.Contents.{HasOwnPairs, is_finer_in}
use Rattle.block_geometry.proofs.Cells.{across_beyond, block_of_cell_in}
use Rattle.block_geometry.proofs.Rows.{within_with}
use Rattle.block_geometry.proofs.Seen.{three_axes}
use Rattle.ghost_laws.specs.Layers.{across_index, on_block}
use Rattle.ghost_laws.specs.Refined.{LiesInChild, finer_index}
use Rattle.ghost_laws.specs.Given.{IsBeside}
use Rattle.ghost_laws.proofs.Ghosts.{in_layout}
use Rattle.ghost_laws.proofs.Layers.{first_across, sizes, within_across}
use Rattle.ghost_laws.proofs.Meeting.{not_inner, sender_crosses}
use Rattle.ghost_laws.proofs.Refined.{child_cell, finer_within}
use Rattle.flux_laws.specs.Corrected.{CoarsePairs}
use Rattle.flux_laws.proofs.AtSide.{finer_at_side}

-- a face's own pair, where a cell that is not finer lies across
pub own_there : (b : FieldBlock) (c : Loc) (axis : ℕ) (high : Bool) (o : Loc) → cell_across b.mesh c axis high ≡ Some o → is_inner b.mesh (block_of b.mesh o) ≡ false →
    face_pair b.settings b.mesh b.field c axis high ≡ own_pair b.settings b.mesh b.field c axis high
unfolding face_pair
own_there b c axis high o meets outer =
    ap (face_pair_by b.settings b.mesh b.field c axis high) meets
    ∙ ap (λ (t : Bool). cond t (sum_pairs (children_at b.mesh.shape.dims axis (not high)) (λ j. own_pair b.settings b.mesh b.field (child b.mesh.shape.dims o j) axis (not high))) (own_pair b.settings b.mesh b.field c axis high)) outer

pub sums_there : (b : FieldBlock) (c : Loc) (axis : ℕ) (high : Bool) (o : Loc) → cell_across b.mesh c axis high ≡ Some o → is_inner b.mesh (block_of b.mesh o) ≡ true →
    face_pair b.settings b.mesh b.field c axis high ≡ sum_pairs (children_at b.mesh.shape.dims axis (not high)) (λ j. own_pair b.settings b.mesh b.field (child b.mesh.shape.dims o j) axis (not high))
unfolding face_pair
sums_there b c axis high o meets inner =
    ap (face_pair_by b.settings b.mesh b.field c axis high) meets
    ∙ ap (λ (t : Bool). cond t (sum_pairs (children_at b.mesh.shape.dims axis (not high)) (λ j. own_pair b.settings b.mesh b.field (child b.mesh.shape.dims o j) axis (not high))) (own_pair b.settings b.mesh b.field c axis high)) inner

-- sums over the children at a side
pub at_side_same : (dims axis : ℕ) (side : Bool) (g h : ℕ → ℕ) → ((j : ℕ) → j < parts dims → is_high_half j axis ≡ side → g j ≡ h j) → sum_over (children_at dims axis side) g ≡ sum_over (children_at dims axis side) h
at_side_same dims axis side g h e =
    passing_sum (λ j. cond side (is_high_half j axis) (not (is_high_half j axis))) g (parts dims)
    ∙ sum_to-same (parts dims) (λ j. cond (cond side (is_high_half j axis) (not (is_high_half j axis))) (g j) 0) (λ j. cond (cond side (is_high_half j axis) (not (is_high_half j axis))) (h j) 0)
    (λ j small. by j (cond side (is_high_half j axis) (not (is_high_half j axis))) refl small)
    ∙ sym (passing_sum (λ j. cond side (is_high_half j axis) (not (is_high_half j axis))) h (parts dims))
  where
    by : (j : ℕ) (t : Bool) → cond side (is_high_half j axis) (not (is_high_half j axis)) ≡ t → j < parts dims → cond t (g j) 0 ≡ cond t (h j) 0
    by j true f small = e j small (half_passes (is_high_half j axis) side f)
    by j false f small = refl

same_pair : (a b c d : ℕ) → a ≡ c → b ≡ d → ◌≡◌ {A = Pair} (record { right = a; left = b }) (record { right = c; left = d })
same_pair a b c d e f = cc

-- the sender's lists have the own pair of each finer cell behind the face
record Finer (b : FieldBlock) (axis : ℕ) (high : Bool) (o : Loc) (j : ℕ) (i right left : List ℕ) : Type 0 where
  beside : IsBeside b axis high i
  meets : across b.mesh.shape b.leaf axis high ≡ Some o
  sound : IsFieldBlock (on_block b (child b.mesh.shape.dims o j))
  has : HasOwnPairs (on_block b (child b.mesh.shape.dims o j)) right left
  lies : LiesInChild b.mesh j (across_index b.mesh axis high 0 i)

record HasFiner (b : FieldBlock) (axis : ℕ) (high : Bool) (o : Loc) (k : ℕ) (i right left : List ℕ) : Type 0 where
  rights : slice_index right (face_of b.layout (finer_index b.mesh (across_index b.mesh axis high 0 i) k) axis (not high)) ≡ (own_pair b.settings b.mesh b.field (child b.mesh.shape.dims (cell_in b.mesh o (across_index b.mesh axis high 0 i)) k) axis (not high)).right
  lefts : slice_index left (face_of b.layout (finer_index b.mesh (across_index b.mesh axis high 0 i) k) axis (not high)) ≡ (own_pair b.settings b.mesh b.field (child b.mesh.shape.dims (cell_in b.mesh o (across_index b.mesh axis high 0 i)) k) axis (not high)).left

has_finer : (b : FieldBlock) (axis : ℕ) (high : Bool) (o : Loc) (j : ℕ) (i right left : List ℕ) (k : ℕ) → Finer b axis high o j i right left → is_high_half k axis ≡ not high → HasFiner b axis high o k i right left
has_finer b axis high o j i right left k s side =
    let m : Mesh = b.mesh in
    let d : ℕ = m.shape.dims in
    let h = three_axes b axis s.beside.sound s.beside.used in
    let q : List ℕ = across_index m axis high 0 i in
    let r : List ℕ = finer_index m q k in
    let from : Loc = child d o j in
    let fit = sizes b s.beside.sound in
    let w = finer_within m q k fit in
    let met = sender_crosses b axis high o j i 0 s.beside (omega arith) s.meets s.sound.leaf.inside s.lies in
    let x : Loc = met.x in
    let outer = not_inner b axis high o j s.beside.sound met in
    let far : List ℕ = with_along axis (end_of (cells_along m axis) (not (not high))) r in
    let there : cell_across m (cell_in m from r) axis (not high) ≡ Some (cell_in m x far) =
    across_beyond m from r axis (not high) s.beside.sound.mesh s.sound.leaf.inside h (finer_at_side b axis high i k s.beside side)
    ∙ ap (option_map (λ v. cell_in m v far)) met.crosses in
    let some = s.beside.sound.mesh.some_cells axis h in
    let block : block_of m (cell_in m x far) ≡ x = block_of_cell_in m x far (within_with m.cells r axis (end_of (cells_along m axis) (not (not high))) w h (end_below (cells_along m axis) (not (not high)) some)) in
    let coarse : is_inner m (block_of m (cell_in m x far)) ≡ false = ap (is_inner m) block ∙ outer in
    let own = own_there b (cell_in m from r) axis (not high) (cell_in m x far) there coarse in
    let cell = child_cell m o q j k fit s.lies in
    let whole = own ∙ ap (λ (c : Loc). own_pair b.settings m b.field c axis (not high)) (sym cell) in
    let pair = s.has r axis (not high) s.beside.used (in_layout (on_block b from) r s.sound w) (ap (is_finer_in m) there ∙ coarse) in
    record { rights = pair.0 ∙ ap (λ (p : Pair). p.right) whole; lefts = pair.1 ∙ ap (λ (p : Pair). p.left) whole }
  where
    end_below : (n : ℕ) (high : Bool) → 1 ≤ n → end_of n high < n
    end_below n true h = omega arith
    end_below n false h = omega arith

pub coarse_pairs : CoarsePairs
coarse_pairs b axis high o j i right left beside meets sound has lies =
    let m : Mesh = b.mesh in
    let d : ℕ = m.shape.dims in
    let q : List ℕ = across_index m axis high 0 i in
    let c : Loc = cell_in m o q in
    let s : Finer b axis high o j i right left = record { beside = beside; meets = meets; sound = sound; has = has; lies = lies } in
    let above : is_inner m o ≡ true = ap (is_inner m) (sym (parent-child d o j)) ∙ node_parent m.shape (is_inner m) (child d o j) (omega arith) sound.leaf.node in
    let inner : is_inner m (block_of m c) ≡ true = ap (is_inner m) (block_of_cell_in m o q (within_across b axis high i 0 beside (omega arith))) ∙ above in
    sums_there b (cell_in m b.leaf i) axis high c (first_across b axis high o i beside meets) inner
    ∙ same_pair (sum_over (children_at d axis (not high)) (λ k. (own_pair b.settings m b.field (child d c k) axis (not high)).right)) (sum_over (children_at d axis (not high)) (λ k. (own_pair b.settings m b.field (child d c k) axis (not high)).left))
    (sum_over (children_at d axis (not high)) (λ k. slice_index right (face_of b.layout (finer_index m q k) axis (not high)))) (sum_over (children_at d axis (not high)) (λ k. slice_index left (face_of b.layout (finer_index m q k) axis (not high))))
    (at_side_same d axis (not high) (λ k. (own_pair b.settings m b.field (child d c k) axis (not high)).right) (λ k. slice_index right (face_of b.layout (finer_index m q k) axis (not high))) (λ k small side. sym (has_finer b axis high o j i right left k s side).rights))
    (at_side_same d axis (not high) (λ k. (own_pair b.settings m b.field (child d c k) axis (not high)).left) (λ k. slice_index left (face_of b.layout (finer_index m q k) axis (not high))) (λ k small side. sym (has_finer b axis high o j i right left k s side).lefts))
