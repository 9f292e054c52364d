-- The inflow and the outflow of a leaf by the lists of its block.
use Rattle.std.proofs.Common.{◌≡◌, ◌==◌, ℕ, ◌+◌, ◌-◌, ◌<◌, ◌≤◌, Bool, true, false, cond, not, Option, Some, None, List, refl, arith, ap, subst, sym, ◌∙◌, slice_index, inl, inr}
use Rattle.std.specs.Option.{option_map}
use Rattle.std.proofs.lemmas.Bool.{cases_lt, cases_eq, ne_eqb, eq-eqb}
use Rattle.morton_order.specs.declared.space.Loc.{Loc}
use Rattle.morton_order.specs.Neighbours.{across}
use Rattle.mesh_rules.specs.Sums.{sum_to}
use Rattle.mesh_rules.specs.Mesh.{Mesh, block_size, cell_at, cells_along, sum_on}
use Rattle.mesh_rules.specs.Faces.{cell_across, face_pair}
use Rattle.mesh_rules.specs.Stage.{when_outside}
use Rattle.mesh_laws.proofs.Grids.{sum_plus, sum_swap}
use Rattle.mesh_laws.proofs.Totals.{sum_to-same}
use Rattle.block_layout.specs.Indices.{IsWithin, with_along}
use Rattle.block_layout.specs.Layouts.{cells_along as layout_cells}
use Rattle.block_layout.specs.Faces.{face_of}
use Rattle.block_geometry.specs.Blocks.{FieldBlock, IsFieldBlock, cell_in, end_of}
use Rattle.block_geometry.proofs.Cells.{across_beyond, across_down, across_up, within_along}
use Rattle.block_geometry.proofs.Seen.{same_cells, three_axes}
use Rattle.flow_laws.specs.Flows.{DomainFlows, passed_outside, sum_box}
use Rattle.flow_laws.proofs.Boxes.{box_same, box_sum, box_zero, layer_counts}

-- nothing passes outwards where a cell lies across
outside_some : (o : Option Loc) (c : Loc) (x : ℕ) → o ≡ Some c → when_outside o x ≡ 0
outside_some o c x e = ap (λ (v : Option Loc). when_outside v x) e

outside_mapped : (o : Option Loc) (g : Loc → Loc) (x : ℕ) → when_outside (option_map g o) x ≡ when_outside o x
outside_mapped None g x = refl
outside_mapped (Some o) g x = refl

-- only the last layer towards a side counts
last_counts : (b : FieldBlock) (axis : ℕ) (high : Bool) (i : List ℕ) (x : ℕ) → IsFieldBlock b → axis < b.layout.dims → IsWithin b.layout.cells i →
    when_outside (cell_across b.mesh (cell_in b.mesh b.leaf i) axis high) x ≡ cond (slice_index i axis == end_of (layout_cells b.layout axis) high) (when_outside (across b.mesh.shape b.leaf axis high) x) 0
last_counts b axis high i x sound used w = elim (cases_eq (slice_index i axis) (end_of (layout_cells b.layout axis) high)) [
  | inl at ↦
      let e = across_beyond b.mesh b.leaf i axis high sound.mesh sound.leaf.inside h (at ∙ ap (λ n. end_of n high) (same_cells b axis sound)) in
      ap (λ (o : Option Loc). when_outside o x) e ∙ outside_mapped (across b.mesh.shape b.leaf axis high) (λ o. cell_in b.mesh o (with_along axis (end_of (cells_along b.mesh axis) (not high)) i)) x
      ∙ sym (ap (λ (t : Bool). cond t (when_outside (across b.mesh.shape b.leaf axis high) x) 0) (eq-eqb (slice_index i axis) (end_of (layout_cells b.layout axis) high) at))
  | inr other ↦ by high other
      ∙ sym (ap (λ (t : Bool). cond t (when_outside (across b.mesh.shape b.leaf axis high) x) 0) (ne_eqb (slice_index i axis) (end_of (layout_cells b.layout axis) high) other))
]
  where
    h : axis < 3
    h = three_axes b axis sound used

    below : slice_index i axis < layout_cells b.layout axis
    below = within_along b.layout.cells i axis w h

    room : (u n : ℕ) → u < n → (u ≡ n - 1 → ⊥) → u + 1 < n
    room u n l f = elim (cases_lt (u + 1) n) [ inl r ↦ r | inr last ↦ absurd (f (omega arith)) ]

    by : (side : Bool) → (slice_index i axis ≡ end_of (layout_cells b.layout axis) side → ⊥) → when_outside (cell_across b.mesh (cell_in b.mesh b.leaf i) axis side) x ≡ 0
    by true f = outside_some (cell_across b.mesh (cell_in b.mesh b.leaf i) axis true) (cell_in b.mesh b.leaf (with_along axis (slice_index i axis + 1) i)) x
        (across_up b.mesh b.leaf i axis sound.leaf.inside h (subst (λ n. slice_index i axis + 1 < n) (same_cells b axis sound) (room (slice_index i axis) (layout_cells b.layout axis) below f)))
    by false f = outside_some (cell_across b.mesh (cell_in b.mesh b.leaf i) axis false) (cell_in b.mesh b.leaf (with_along axis (slice_index i axis - 1) i)) x
        (across_down b.mesh b.leaf i axis (slice_index i axis - 1) h (before (slice_index i axis) f))
      where
        before : (u : ℕ) → (u ≡ 0 → ⊥) → u ≡ u - 1 + 1
        before u f = elim (cases_eq u 0) [ inl z ↦ absurd (f z) | inr more ↦ omega arith ]

-- what passes a side by the cells' faces, and by a list
sum_outside : (n : List ℕ) (o : Option Loc) (g : List ℕ → ℕ) → sum_box n (λ i. when_outside o (g i)) ≡ when_outside o (sum_box n g)
sum_outside n None g = refl
sum_outside n (Some c) g = box_zero n (λ i. when_outside (Some c) (g i)) (λ i. refl)

end_below : (n : ℕ) (high : Bool) → 1 ≤ n → end_of n high < n
end_below n true h = omega arith
end_below n false h = omega arith

some_layers : (b : FieldBlock) (axis : ℕ) → IsFieldBlock b → axis < 3 → 1 ≤ layout_cells b.layout axis
some_layers b axis sound h = subst (λ n. 1 ≤ n) (sym (same_cells b axis sound)) (sound.mesh.some_cells axis h)

side_passes : (b : FieldBlock) (axis : ℕ) (high : Bool) (x : Loc → ℕ) (list : List ℕ) → IsFieldBlock b → axis < b.layout.dims →
    ((i : List ℕ) → IsWithin b.layout.cells i → x (cell_in b.mesh b.leaf i) ≡ slice_index list (face_of b.layout i axis high)) →
    sum_on b.mesh b.leaf (λ c. when_outside (cell_across b.mesh c axis high) (x c)) ≡ passed_outside b list axis high
side_passes b axis high x list sound used listed =
    let m : Mesh = b.mesh in
    let h = three_axes b axis sound used in
    let n : List ℕ = b.layout.cells in
    let e : ℕ = end_of (layout_cells b.layout axis) high in
    let o : Option Loc = across m.shape b.leaf axis high in
    let g : List ℕ → ℕ = λ i. when_outside (cell_across m (cell_in m b.leaf i) axis high) (x (cell_in m b.leaf i)) in
    let y : List ℕ → ℕ = λ i. slice_index list (face_of b.layout i axis high) in
    box_sum m.cells g
    ∙ ap (λ (k : List ℕ). sum_box k g) (sym sound.layout.cells)
    ∙ box_same n g (λ i. cond (slice_index i axis == e) (when_outside o (y i)) 0)
    (λ i w. ap (when_outside (cell_across m (cell_in m b.leaf i) axis high)) (listed i w) ∙ last_counts b axis high i (y i) sound used w)
    ∙ layer_counts axis n e (λ i. when_outside o (y i)) h (end_below (layout_cells b.layout axis) high (some_layers b axis sound h))
    ∙ sum_outside (with_along axis 1 n) o (λ i. y (with_along axis e i))

-- both sides of each axis
both_sides : (a b c d : ℕ) → a ≡ c → b ≡ d → a + b ≡ c + d
both_sides a b c d e f = cc

all_sides : (b : FieldBlock) (x y : ℕ → Loc → ℕ) (low high : ℕ → ℕ) → IsFieldBlock b →
    ((axis : ℕ) → axis < b.layout.dims → sum_on b.mesh b.leaf (x axis) ≡ low axis) → ((axis : ℕ) → axis < b.layout.dims → sum_on b.mesh b.leaf (y axis) ≡ high axis) →
    sum_on b.mesh b.leaf (λ c. sum_to b.mesh.shape.dims (λ axis. x axis c + y axis c)) ≡ sum_to b.layout.dims (λ axis. low axis + high axis)
all_sides b x y low high sound lows highs =
    let m : Mesh = b.mesh in
    let size : ℕ = block_size m in
    sum_swap size m.shape.dims (λ k axis. x axis (cell_at m b.leaf k) + y axis (cell_at m b.leaf k))
    ∙ ap (λ d. sum_to d (λ axis. sum_to size (λ k. x axis (cell_at m b.leaf k) + y axis (cell_at m b.leaf k)))) (sym sound.layout.dims)
    ∙ sum_to-same b.layout.dims (λ axis. sum_to size (λ k. x axis (cell_at m b.leaf k) + y axis (cell_at m b.leaf k))) (λ axis. low axis + high axis)
    (λ axis used. sum_plus size (λ k. x axis (cell_at m b.leaf k)) (λ k. y axis (cell_at m b.leaf k))
    ∙ both_sides (sum_on m b.leaf (x axis)) (sum_on m b.leaf (y axis)) (low axis) (high axis) (lows axis used) (highs axis used))

pub domain_flows : DomainFlows
domain_flows b right left sound pairs =
    let m : Mesh = b.mesh in
    record {
      inflow = all_sides b (λ axis c. when_outside (cell_across m c axis false) (face_pair b.settings m b.field c axis false).right) (λ axis c. when_outside (cell_across m c axis true) (face_pair b.settings m b.field c axis true).left)
          (λ axis. passed_outside b right axis false) (λ axis. passed_outside b left axis true) sound
          (λ axis used. side_passes b axis false (λ c. (face_pair b.settings m b.field c axis false).right) right sound used (λ i w. sym (pairs i axis false used w).0))
          (λ axis used. side_passes b axis true (λ c. (face_pair b.settings m b.field c axis true).left) left sound used (λ i w. sym (pairs i axis true used w).1));
      outflow = all_sides b (λ axis c. when_outside (cell_across m c axis false) (face_pair b.settings m b.field c axis false).left) (λ axis c. when_outside (cell_across m c axis true) (face_pair b.settings m b.field c axis true).right)
          (λ axis. passed_outside b left axis false) (λ axis. passed_outside b right axis true) sound
          (λ axis used. side_passes b axis false (λ c. (face_pair b.settings m b.field c axis false).left) left sound used (λ i w. sym (pairs i axis false used w).1))
          (λ axis used. side_passes b axis true (λ c. (face_pair b.settings m b.field c axis true).right) right sound used (λ i w. sym (pairs i axis true used w).0));
    }
