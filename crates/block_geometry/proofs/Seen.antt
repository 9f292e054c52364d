-- What the rows of a block's list have is what the mesh sees there.
use Rattle.std.proofs.Common.{◌≡◌, ℕ, ◌+◌, ◌-◌, ◌<◌, Bool, true, false, cond, Option, Some, List, arith, ap, subst, sym, ◌∙◌, slice_index, inl, inr}
use Rattle.std.specs.Prelude.{option_and_then}
use Rattle.std.proofs.lemmas.Bool.{cases_lt, cases_eq}
use Rattle.morton_order.specs.declared.space.Loc.{Loc}
use Rattle.block_tree.specs.Tree.{IsLeaf}
use Rattle.mesh_rules.specs.Mesh.{OnLeaf, cells_along, is_inner, stored}
use Rattle.mesh_rules.specs.Look.{look}
use Rattle.mesh_rules.specs.Faces.{Looks, cell_across, looks_at, seen_in, seen_next, seen_second}
use Rattle.mesh_laws.proofs.Looks.{look_law}
use Rattle.block_layout.specs.Indices.{IsWithin, with_along}
use Rattle.block_layout.specs.Layouts.{cells_along as layout_cells}
use Rattle.block_geometry.specs.Blocks.{FieldBlock, IsFieldBlock, cell_in, ghost_along, own_place, row_place}
use Rattle.block_geometry.specs.Contents.{HasInterior, SeesAround, looks_in_row}
use Rattle.block_geometry.specs.Laws.{RowsAreLooks}
use Rattle.block_geometry.proofs.Cells.{across_down, across_up, block_of_cell_in, within_along}
use Rattle.block_geometry.proofs.Rows.{along_with, own_row, own_row_at, row_with, within_with}

-- an index of the layout is one of the mesh's blocks
pub in_mesh : (b : FieldBlock) (i : List ℕ) → IsFieldBlock b → IsWithin b.layout.cells i → IsWithin b.mesh.cells i
in_mesh b i sound w = subst (λ (n : List ℕ). IsWithin n i) sound.layout.cells w

pub same_cells : (b : FieldBlock) (axis : ℕ) → IsFieldBlock b → layout_cells b.layout axis ≡ cells_along b.mesh axis
same_cells b axis sound = ap (λ (n : List ℕ). slice_index n axis) sound.layout.cells

pub three_axes : (b : FieldBlock) (axis : ℕ) → IsFieldBlock b → axis < b.layout.dims → axis < 3
three_axes b axis sound used = let most = b.layout.sound.most in omega arith

-- a cell of the block lies on a leaf, and what is seen there is what is stored
pub on_leaf : (b : FieldBlock) (i : List ℕ) → IsFieldBlock b → IsWithin b.layout.cells i → OnLeaf b.mesh (cell_in b.mesh b.leaf i)
on_leaf b i sound w = subst (λ (v : Loc). IsLeaf b.mesh.shape (is_inner b.mesh) v) (sym (block_of_cell_in b.mesh b.leaf i (in_mesh b i sound w))) sound.leaf

pub own_look : (b : FieldBlock) (i : List ℕ) → IsFieldBlock b → IsWithin b.layout.cells i → look b.mesh b.field (cell_in b.mesh b.leaf i) ≡ stored b.mesh b.field (cell_in b.mesh b.leaf i)
own_look b i sound w = (look_law b.mesh b.field (cell_in b.mesh b.leaf i) sound.mesh).at_leaf (on_leaf b i sound w)

-- what is seen in an own cell stands in its place
pub own_seen : (b : FieldBlock) (cells : List ℕ) (i : List ℕ) → IsFieldBlock b → HasInterior b cells → IsWithin b.layout.cells i → slice_index cells (own_place b.layout i) ≡ look b.mesh b.field (cell_in b.mesh b.leaf i)
own_seen b cells i sound has w = has i w ∙ sym (own_look b i sound w)

-- a setting: a block with its ghosts, a cell of it, and an axis in use
pub record Around (b : FieldBlock) (cells : List ℕ) (i : List ℕ) (axis : ℕ) : Type 0 where
  pub sound : IsFieldBlock b
  pub has : HasInterior b cells
  pub sees : SeesAround b cells
  pub within : IsWithin b.layout.cells i
  pub used : axis < b.layout.dims

pub three : (b : FieldBlock) (cells : List ℕ) (i : List ℕ) (axis : ℕ) → Around b cells i axis → axis < 3
three b cells i axis a = three_axes b axis a.sound a.used

-- the same about another cell of the row
pub moved_on : (b : FieldBlock) (cells : List ℕ) (i : List ℕ) (axis x : ℕ) → Around b cells i axis → x < layout_cells b.layout axis → Around b cells (with_along axis x i) axis
moved_on b cells i axis x a h = record { sound = a.sound; has = a.has; sees = a.sees; within = within_with b.layout.cells i axis x a.within (three b cells i axis a) h; used = a.used }

row_own : (b : FieldBlock) (cells : List ℕ) (i : List ℕ) (axis x : ℕ) → Around b cells i axis → x < layout_cells b.layout axis →
    slice_index cells (row_place b.layout axis (x + 2) i) ≡ look b.mesh b.field (cell_in b.mesh b.leaf (with_along axis x i))
row_own b cells i axis x a h =
    ap (slice_index cells) (sym (own_row_at b.layout axis x i a.used (three b cells i axis a)))
    ∙ own_seen b cells (with_along axis x i) a.sound a.has (within_with b.layout.cells i axis x a.within (three b cells i axis a) h)

row_here : (b : FieldBlock) (cells : List ℕ) (i : List ℕ) (axis : ℕ) → Around b cells i axis → slice_index cells (row_place b.layout axis (slice_index i axis + 2) i) ≡ look b.mesh b.field (cell_in b.mesh b.leaf i)
row_here b cells i axis a = ap (slice_index cells) (sym (own_row b.layout axis i a.used (three b cells i axis a))) ∙ own_seen b cells i a.sound a.has a.within

-- the next cell of the block, upwards and downwards
up_cell : (b : FieldBlock) (cells : List ℕ) (i : List ℕ) (axis : ℕ) → Around b cells i axis → slice_index i axis + 1 < layout_cells b.layout axis →
    cell_across b.mesh (cell_in b.mesh b.leaf i) axis true ≡ Some (cell_in b.mesh b.leaf (with_along axis (slice_index i axis + 1) i))
up_cell b cells i axis a h = across_up b.mesh b.leaf i axis a.sound.leaf.inside (three b cells i axis a) (subst (λ n. slice_index i axis + 1 < n) (same_cells b axis a.sound) h)

down_cell : (b : FieldBlock) (cells : List ℕ) (i : List ℕ) (axis x : ℕ) → Around b cells i axis → slice_index i axis ≡ x + 1 →
    cell_across b.mesh (cell_in b.mesh b.leaf i) axis false ≡ Some (cell_in b.mesh b.leaf (with_along axis x i))
down_cell b cells i axis x a e = across_down b.mesh b.leaf i axis x (three b cells i axis a) e

-- the four totals around a cell
row_up : (b : FieldBlock) (cells : List ℕ) (i : List ℕ) (axis : ℕ) → Around b cells i axis →
    slice_index cells (row_place b.layout axis (slice_index i axis + 3) i) ≡ seen_next b.settings b.mesh b.field (cell_in b.mesh b.leaf i) axis true
row_up b cells i axis a =
    let u : ℕ = slice_index i axis in
    let below = within_along b.layout.cells i axis a.within (three b cells i axis a) in
    elim (cases_lt (u + 1) (layout_cells b.layout axis)) [
      | inl room ↦
          let e : u + 3 ≡ u + 1 + 2 = omega arith in
          ap (λ x. slice_index cells (row_place b.layout axis x i)) e
          ∙ row_own b cells i axis (u + 1) a room
          ∙ sym (ap (seen_in b.settings b.mesh b.field axis true b.leaf.level) (up_cell b cells i axis a room))
      | inr last ↦
          let e : u + 3 ≡ ghost_along b.layout axis true 0 = omega arith in
          ap (λ x. slice_index cells (row_place b.layout axis x i)) e
          ∙ (a.sees axis true a.used i a.within (omega arith)).next
    ]

row_down : (b : FieldBlock) (cells : List ℕ) (i : List ℕ) (axis : ℕ) → Around b cells i axis →
    slice_index cells (row_place b.layout axis (slice_index i axis + 1) i) ≡ seen_next b.settings b.mesh b.field (cell_in b.mesh b.leaf i) axis false
row_down b cells i axis a =
    let u : ℕ = slice_index i axis in
    let below = within_along b.layout.cells i axis a.within (three b cells i axis a) in
    elim (cases_eq u 0) [
      | inl first ↦ ap (λ x. slice_index cells (row_place b.layout axis (x + 1) i)) first ∙ (a.sees axis false a.used i a.within first).next
      | inr later ↦
          let x : ℕ = u - 1 in
          let at : u ≡ x + 1 = omega arith in
          let e : u + 1 ≡ x + 2 = omega arith in
          ap (λ y. slice_index cells (row_place b.layout axis y i)) e
          ∙ row_own b cells i axis x a (omega arith)
          ∙ sym (ap (seen_in b.settings b.mesh b.field axis false b.leaf.level) (down_cell b cells i axis x a at))
    ]

-- the second cell is the next one of the next one
second_is : (b : FieldBlock) (i j : List ℕ) (axis : ℕ) (high : Bool) → cell_across b.mesh (cell_in b.mesh b.leaf i) axis high ≡ Some (cell_in b.mesh b.leaf j) →
    seen_second b.settings b.mesh b.field (cell_in b.mesh b.leaf i) axis high ≡ seen_next b.settings b.mesh b.field (cell_in b.mesh b.leaf j) axis high
second_is b i j axis high e = ap (λ (o : Option Loc). seen_in b.settings b.mesh b.field axis high b.leaf.level (option_and_then (λ o. cell_across b.mesh o axis high) o)) e

row_up_second : (b : FieldBlock) (cells : List ℕ) (i : List ℕ) (axis : ℕ) → Around b cells i axis →
    slice_index cells (row_place b.layout axis (slice_index i axis + 4) i) ≡ seen_second b.settings b.mesh b.field (cell_in b.mesh b.leaf i) axis true
row_up_second b cells i axis a =
    let u : ℕ = slice_index i axis in
    let h = three b cells i axis a in
    let below = within_along b.layout.cells i axis a.within h in
    elim (cases_lt (u + 1) (layout_cells b.layout axis)) [
      | inl room ↦
          let j : List ℕ = with_along axis (u + 1) i in
          let at : slice_index j axis ≡ u + 1 = along_with axis (u + 1) i h in
          let e : u + 4 ≡ slice_index j axis + 3 = omega arith in
          ap (λ x. slice_index cells (row_place b.layout axis x i)) e
          ∙ ap (slice_index cells) (sym (row_with b.layout axis (slice_index j axis + 3) (u + 1) i h))
          ∙ row_up b cells j axis (moved_on b cells i axis (u + 1) a room)
          ∙ sym (second_is b i j axis true (up_cell b cells i axis a room))
      | inr last ↦
          let e : u + 4 ≡ ghost_along b.layout axis true 1 = omega arith in
          ap (λ x. slice_index cells (row_place b.layout axis x i)) e
          ∙ (a.sees axis true a.used i a.within (omega arith)).second
    ]

row_down_second : (b : FieldBlock) (cells : List ℕ) (i : List ℕ) (axis : ℕ) → Around b cells i axis →
    slice_index cells (row_place b.layout axis (slice_index i axis) i) ≡ seen_second b.settings b.mesh b.field (cell_in b.mesh b.leaf i) axis false
row_down_second b cells i axis a =
    let u : ℕ = slice_index i axis in
    let h = three b cells i axis a in
    let below = within_along b.layout.cells i axis a.within h in
    elim (cases_eq u 0) [
      | inl first ↦ ap (λ x. slice_index cells (row_place b.layout axis x i)) first ∙ (a.sees axis false a.used i a.within first).second
      | inr later ↦
          let x : ℕ = u - 1 in
          let up : u ≡ x + 1 = omega arith in
          let j : List ℕ = with_along axis x i in
          let at : slice_index j axis ≡ x = along_with axis x i h in
          let e : u ≡ slice_index j axis + 1 = omega arith in
          ap (λ y. slice_index cells (row_place b.layout axis y i)) e
          ∙ ap (slice_index cells) (sym (row_with b.layout axis (slice_index j axis + 1) x i h))
          ∙ row_down b cells j axis (moved_on b cells i axis x a (omega arith))
          ∙ sym (second_is b i j axis false (down_cell b cells i axis x a up))
    ]

four_looks : (a b c d e f g h : ℕ) → a ≡ e → b ≡ f → c ≡ g → d ≡ h →
    ◌≡◌ {A = Looks} (record { far_below = a; below = b; above = c; far_above = d }) (record { far_below = e; below = f; above = g; far_above = h })
four_looks a b c d e f g h p q r s = cc

looks_by : (b : FieldBlock) (cells : List ℕ) (i : List ℕ) (axis : ℕ) (high : Bool) → Around b cells i axis →
    looks_at b.settings b.mesh b.field (cell_in b.mesh b.leaf i) axis high ≡ looks_in_row b.layout cells axis (slice_index i axis + cond high 1 0) i
looks_by b cells i axis true a =
    let u : ℕ = slice_index i axis in
    let at : (x y : ℕ) → x ≡ y → slice_index cells (row_place b.layout axis x i) ≡ slice_index cells (row_place b.layout axis y i) = λ x y e. ap (λ z. slice_index cells (row_place b.layout axis z i)) e in
    four_looks (seen_next b.settings b.mesh b.field (cell_in b.mesh b.leaf i) axis false) (look b.mesh b.field (cell_in b.mesh b.leaf i)) (seen_next b.settings b.mesh b.field (cell_in b.mesh b.leaf i) axis true) (seen_second b.settings b.mesh b.field (cell_in b.mesh b.leaf i) axis true)
    (slice_index cells (row_place b.layout axis (u + 1) i)) (slice_index cells (row_place b.layout axis (u + 1 + 1) i)) (slice_index cells (row_place b.layout axis (u + 1 + 2) i)) (slice_index cells (row_place b.layout axis (u + 1 + 3) i))
    (sym (row_down b cells i axis a))
    (sym (row_here b cells i axis a) ∙ at (u + 2) (u + 1 + 1) (omega arith))
    (sym (row_up b cells i axis a) ∙ at (u + 3) (u + 1 + 2) (omega arith))
    (sym (row_up_second b cells i axis a) ∙ at (u + 4) (u + 1 + 3) (omega arith))
looks_by b cells i axis false a =
    let u : ℕ = slice_index i axis in
    let at : (x y : ℕ) → x ≡ y → slice_index cells (row_place b.layout axis x i) ≡ slice_index cells (row_place b.layout axis y i) = λ x y e. ap (λ z. slice_index cells (row_place b.layout axis z i)) e in
    four_looks (seen_second b.settings b.mesh b.field (cell_in b.mesh b.leaf i) axis false) (seen_next b.settings b.mesh b.field (cell_in b.mesh b.leaf i) axis false) (look b.mesh b.field (cell_in b.mesh b.leaf i)) (seen_next b.settings b.mesh b.field (cell_in b.mesh b.leaf i) axis true)
    (slice_index cells (row_place b.layout axis (u + 0) i)) (slice_index cells (row_place b.layout axis (u + 0 + 1) i)) (slice_index cells (row_place b.layout axis (u + 0 + 2) i)) (slice_index cells (row_place b.layout axis (u + 0 + 3) i))
    (sym (row_down_second b cells i axis a) ∙ at u (u + 0) (omega arith))
    (sym (row_down b cells i axis a) ∙ at (u + 1) (u + 0 + 1) (omega arith))
    (sym (row_here b cells i axis a) ∙ at (u + 2) (u + 0 + 2) (omega arith))
    (sym (row_up b cells i axis a) ∙ at (u + 3) (u + 0 + 3) (omega arith))

pub rows_are_looks : RowsAreLooks
rows_are_looks b cells i axis high sound has sees w used = looks_by b cells i axis high (record { sound = sound; has = has; sees = sees; within = w; used = used })
