-- What is measured in the list of a leaf is what the rules measure on the mesh.
use Rattle.std.proofs.Common.{◌≡◌, ℕ, zero, suc, ◌+◌, ◌*◌, ◌/◌, ◌^◌, ◌<◌, ◌≤◌, Bool, true, false, cond, nat_lt, List, slice_index, refl, arith, ap, subst, sym, ◌∙◌, inl, inr}
use Rattle.std.proofs.lemmas.Bool.{cases_lt, le-ltb, lt-ltb}
use Rattle.std.proofs.lemmas.Nat.{div-mul-add}
use Rattle.morton_order.specs.declared.space.Loc.{Loc}
use Rattle.morton_order.specs.Space.{axis_of, same_loc}
use Rattle.morton_order.specs.Neighbours.{moved}
use Rattle.morton_order.proofs.Touching.{same_as, same_loc-is, same_loc-self}
use Rattle.block_tree.proofs.Behinds.{fails}
use Rattle.mesh_settings.specs.declared.words.Method.{Method}
use Rattle.mesh_settings.specs.declared.words.Method.TheVariants.{Peak, Jump}
use Rattle.mesh_rules.specs.Sums.{greatest_to}
use Rattle.mesh_rules.specs.Mesh.{Mesh, block_of, block_size, cell_at, cells_along, stored}
use Rattle.mesh_rules.specs.Tags.{difference, measured_by, step_along, weight}
use Rattle.block_layout.specs.declared.layout.Layout.{Layout}
use Rattle.block_layout.specs.Indices.{IsWithin, count_of, index_of, number_of, with_along}
use Rattle.block_layout.proofs.Boxes.{index_below, number_bound, number_index}
use Rattle.block_geometry.specs.Blocks.{IsLayoutOf, cell_in}
use Rattle.block_geometry.proofs.Cells.{axis_of_cell, block_of_cell_in, cell_moved, within_along}
use Rattle.block_geometry.proofs.Rows.{within_with}
use Rattle.cell_boxes.specs.Boxes.{address}
use Rattle.refine_tags.specs.Measures.{greatest_in, measured_in, step_in, total_at}
use Rattle.dense_tags.specs.LeafWishes.{own_box}
use Rattle.dense_tags.proofs.Scaled.{cond_scaled, difference_scaled, greatest_same, greatest_scaled}

-- a list has what is stored in the cells of a block
abbrev pub HasStored : Mesh → ℕ → Loc → List ℕ → Type 0
HasStored m f l list = (place : ℕ) → place < block_size m → stored m f (cell_at m l place) ≡ slice_index list place

-- at an index of the block
pub own_address : (l : Layout) (q : List ℕ) → address (own_box l) q ≡ number_of l.cells q
own_address l q = corner (slice_index q 0) (slice_index q 1) (slice_index q 2) (slice_index l.cells 0) (slice_index l.cells 1)
  where
    corner : (x y z a b : ℕ) → 0 + (0 + x + a * (0 + y + b * (0 + z))) ≡ x + a * (y + b * z)
    corner x y z a b = omega arith

same_index : (m : Mesh) (l : Loc) (q : List ℕ) → IsWithin m.cells q → cell_at m l (number_of m.cells q) ≡ cell_in m l q
same_index m l q w =
    let e = number_index m.cells q w in
    same_as (cell_in m l q) (cell_at m l (number_of m.cells q)) refl (ap (λ v. l.l1 * cells_along m 0 + v) e.along1) (ap (λ v. l.l2 * cells_along m 1 + v) e.along2) (ap (λ v. l.l3 * cells_along m 2 + v) e.along3)

total_is : (m : Mesh) (layout : Layout) (f : ℕ) (l : Loc) (list q : List ℕ) → IsLayoutOf m layout → HasStored m f l list → IsWithin m.cells q → total_at list (own_box layout) q ≡ stored m f (cell_in m l q)
total_is m layout f l list q of has w =
    ap (slice_index list) (own_address layout q ∙ ap (λ (n : List ℕ). number_of n q) of.cells)
    ∙ sym (has (number_of m.cells q) (number_bound m.cells q w))
    ∙ ap (stored m f) (same_index m l q w)

-- the next cell along an axis
moved_home : (l : Loc) (axis : ℕ) → moved l axis (axis_of l axis) ≡ l
moved_home l zero = refl
moved_home l (suc zero) = refl
moved_home l (suc (suc a)) = refl

next_inside : (m : Mesh) (l : Loc) (q : List ℕ) (axis : ℕ) → axis < 3 → moved (cell_in m l q) axis (axis_of (cell_in m l q) axis + 1) ≡ cell_in m l (with_along axis (slice_index q axis + 1) q)
next_inside m l q axis h =
    ap (moved (cell_in m l q) axis) (ap (λ v. v + 1) (axis_of_cell m l q axis h) ∙ omega arith)
    ∙ cell_moved m l q axis (axis_of l axis) (slice_index q axis + 1) h
    ∙ ap (λ (v : Loc). cell_in m v (with_along axis (slice_index q axis + 1) q)) (moved_home l axis)

block_axis : (m : Mesh) (c : Loc) (axis : ℕ) → axis < 3 → axis_of (block_of m c) axis ≡ axis_of c axis / cells_along m axis
block_axis m c zero h = refl
block_axis m c (suc zero) h = refl
block_axis m c (suc (suc zero)) h = refl
block_axis m c (suc (suc (suc a))) h = absurd (omega arith)

moved_axis : (c : Loc) (axis x : ℕ) → axis_of (moved c axis x) axis ≡ x
moved_axis c zero x = refl
moved_axis c (suc zero) x = refl
moved_axis c (suc (suc a)) x = refl

-- beyond the last cell of the block lies another block
next_outside : (m : Mesh) (l : Loc) (q : List ℕ) (axis : ℕ) → axis < 3 → IsWithin m.cells q → slice_index q axis + 1 ≡ cells_along m axis → same_loc (block_of m (moved (cell_in m l q) axis (axis_of (cell_in m l q) axis + 1))) (block_of m (cell_in m l q)) ≡ false
next_outside m l q axis h w last =
    let c : Loc = cell_in m l q in
    let n : ℕ = cells_along m axis in
    let next : Loc = moved c axis (axis_of c axis + 1) in
    let some : 0 < n = omega arith in
    let up : axis_of (block_of m next) axis ≡ axis_of l axis + 1 =
    block_axis m next axis h ∙ ap (λ v. v / n) (moved_axis c axis (axis_of c axis + 1) ∙ ap (λ v. v + 1) (axis_of_cell m l q axis h) ∙ whole (axis_of l axis) n (slice_index q axis) last) ∙ div-mul-add (axis_of l axis + 1) n 0 some in
    let here : axis_of (block_of m c) axis ≡ axis_of l axis = ap (λ (v : Loc). axis_of v axis) (block_of_cell_in m l q w) in
    fails (same_loc (block_of m next) (block_of m c)) (λ e.
    let same : axis_of (block_of m next) axis ≡ axis_of (block_of m c) axis = ap (λ (v : Loc). axis_of v axis) (same_loc-is (block_of m next) (block_of m c) e) in
    omega arith)
  where
    whole : (y n x : ℕ) → x + 1 ≡ n → y * n + x + 1 ≡ (y + 1) * n + 0
    whole y n x e = omega arith

-- a step in the list, scaled, is a step on the mesh
step_is : (m : Mesh) (layout : Layout) (f : ℕ) (l : Loc) (list q : List ℕ) (axis : ℕ) → IsLayoutOf m layout → HasStored m f l list → IsWithin m.cells q → axis < 3 →
    step_in layout (total_at list (own_box layout)) q axis * 2 ^ (m.shape.dims * l.level) ≡ step_along m f (cell_in m l q) axis
step_is m layout f l list q axis of has w h =
    let s : ℕ = 2 ^ (m.shape.dims * l.level) in
    let c : Loc = cell_in m l q in
    let total = total_at list (own_box layout) in
    let r : List ℕ = with_along axis (slice_index q axis + 1) q in
    let next : Loc = moved c axis (axis_of c axis + 1) in
    let cells = ap (λ (n : List ℕ). cond (nat_lt (slice_index q axis + 1) (slice_index n axis)) (difference (total q) (total r)) 0 * s) of.cells in
    cells
    ∙ elim (cases_lt (slice_index q axis + 1) (cells_along m axis)) [
      | inl inside ↦
          let within : IsWithin m.cells r = within_with m.cells q axis (slice_index q axis + 1) w h inside in
          let at : next ≡ cell_in m l r = next_inside m l q axis h in
          let home : same_loc (block_of m next) (block_of m c) ≡ true =
          ap (λ (v : Loc). same_loc v (block_of m c)) (ap (block_of m) at ∙ block_of_cell_in m l r within) ∙ ap (same_loc l) (block_of_cell_in m l q w) ∙ same_loc-self l in
          let seen : weight m f next ≡ stored m f (cell_in m l r) * s = ap (weight m f) at in
          ap (λ (t : Bool). cond t (difference (total q) (total r)) 0 * s) (lt-ltb (slice_index q axis + 1) (cells_along m axis) inside)
          ∙ difference_scaled (total q) (total r) s
          ∙ ap (λ v. difference (v * s) (total r * s)) (total_is m layout f l list q of has w)
          ∙ ap (λ v. difference (weight m f c) (v * s)) (total_is m layout f l list r of has within)
          ∙ ap (difference (weight m f c)) (sym seen)
          ∙ ap (λ (t : Bool). cond t (difference (weight m f c) (weight m f next)) 0) (sym home)
      | inr most ↦
          let small = within_along m.cells q axis w h in
          let last : slice_index q axis + 1 ≡ cells_along m axis = omega arith in
          ap (λ (t : Bool). cond t (difference (total q) (total r)) 0 * s) (le-ltb (slice_index q axis + 1) (cells_along m axis) most)
          ∙ cond_scaled false (difference (total q) (total r)) s
          ∙ ap (λ (t : Bool). cond t (difference (weight m f c) (weight m f next)) 0) (sym (next_outside m l q axis h w last))
    ]

-- what is measured in the list is what is measured on the mesh
pub measured_is : (m : Mesh) (layout : Layout) (f : ℕ) (l : Loc) (list : List ℕ) (method : Method) → IsLayoutOf m layout → HasStored m f l list → measured_in method layout l.level (total_at list (own_box layout)) ≡ measured_by method m f l
measured_is m layout f l list Peak of has =
    let total = total_at list (own_box layout) in
    ap (λ d. greatest_in Peak layout total * 2 ^ (d * l.level)) of.dims
    ∙ ap (λ (n : List ℕ). greatest_to (count_of n) (λ k. total (index_of n k)) * 2 ^ (m.shape.dims * l.level)) of.cells
    ∙ greatest_scaled (block_size m) (λ k. total (index_of m.cells k)) (2 ^ (m.shape.dims * l.level))
    ∙ greatest_same (block_size m) (λ k. total (index_of m.cells k) * 2 ^ (m.shape.dims * l.level)) (λ k. weight m f (cell_at m l k))
    (λ k small. ap (λ v. v * 2 ^ (m.shape.dims * l.level)) (total_is m layout f l list (index_of m.cells k) of has (index_below m.cells k small)))
measured_is m layout f l list Jump of has =
    let total = total_at list (own_box layout) in
    let s : ℕ = 2 ^ (m.shape.dims * l.level) in
    let few : m.shape.dims ≤ 3 = subst (λ d. d ≤ 3) of.dims layout.sound.most in
    ap (λ d. greatest_in Jump layout total * 2 ^ (d * l.level)) of.dims
    ∙ ap (λ (n : List ℕ). greatest_to (count_of n) (λ k. greatest_to layout.dims (step_in layout total (index_of n k))) * s) of.cells
    ∙ ap (λ d. greatest_to (block_size m) (λ k. greatest_to d (step_in layout total (index_of m.cells k))) * s) of.dims
    ∙ greatest_scaled (block_size m) (λ k. greatest_to m.shape.dims (step_in layout total (index_of m.cells k))) s
    ∙ greatest_same (block_size m) (λ k. greatest_to m.shape.dims (step_in layout total (index_of m.cells k)) * s) (λ k. greatest_to m.shape.dims (step_along m f (cell_at m l k)))
    (λ k small.
    greatest_scaled m.shape.dims (step_in layout total (index_of m.cells k)) s
    ∙ greatest_same m.shape.dims (λ axis. step_in layout total (index_of m.cells k) axis * s) (step_along m f (cell_at m l k))
    (λ axis used. step_is m layout f l list (index_of m.cells k) axis of has (index_below m.cells k small) (omega arith)))
