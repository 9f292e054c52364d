-- Own and corrected pairs are all pairs.
use Rattle.std.proofs.Common.{◌≡◌, ℕ, ◌+◌, ◌-◌, ◌<◌, Bool, true, false, not, Option, Some, None, List, refl, arith, ap, subst, sym, ◌∙◌, slice_index, inl, inr}
use Rattle.std.specs.Option.{option_map}
use Rattle.std.proofs.lemmas.Bool.{cases_eq, cases_lt, false≢true}
use Rattle.morton_order.specs.declared.space.Loc.{Loc}
use Rattle.morton_order.specs.Space.{child}
use Rattle.morton_order.specs.Neighbours.{across}
use Rattle.block_tree.proofs.Behinds.{fails}
use Rattle.mesh_rules.specs.Mesh.{Mesh, cells_along, is_inner}
use Rattle.mesh_rules.specs.Faces.{Pair, cell_across}
use Rattle.block_layout.specs.Indices.{IsWithin, with_along}
use Rattle.block_layout.specs.Layouts.{cells_along as layout_cells}
use Rattle.block_geometry.specs.Blocks.{FieldBlock, IsAtSide, IsFieldBlock, cell_in, end_of}
use Rattle.block_geometry.specs.Contents.{HasPair, is_finer_in, pair_of}
use Rattle.block_geometry.proofs.Cells.{across_beyond, across_down, across_up, block_of_cell_in, within_along}
use Rattle.block_geometry.proofs.Rows.{within_with}
use Rattle.block_geometry.proofs.Seen.{in_mesh, same_cells, three_axes}
use Rattle.ghost_laws.specs.Layers.{across_index}
use Rattle.ghost_laws.specs.Refined.{child_at}
use Rattle.ghost_laws.specs.Given.{IsBeside}
use Rattle.ghost_laws.proofs.Layers.{first_across, sizes, within_across}
use Rattle.ghost_laws.proofs.Senders.{finer_leaf, leaf_block, lies_in_child}
use Rattle.flux_laws.specs.Corrected.{CorrectedPairs, HaveOwnPairs, IsCorrected}
use Rattle.flux_laws.proofs.Corrected.{coarse_pairs}

-- the next cell of the block lies on the leaf
on_leaf_is : (b : FieldBlock) (j : List ℕ) (o : Option Loc) → IsFieldBlock b → IsWithin b.layout.cells j → o ≡ Some (cell_in b.mesh b.leaf j) → is_finer_in b.mesh o ≡ false
on_leaf_is b j o sound w e =
    ap (is_finer_in b.mesh) e ∙ ap (is_inner b.mesh) (block_of_cell_in b.mesh b.leaf j (in_mesh b j sound w)) ∙ fails (is_inner b.mesh b.leaf) sound.leaf.outer

-- finer cells lie only across the sides of a block
pub finer_is_beside : (b : FieldBlock) (i : List ℕ) (axis : ℕ) (high : Bool) → IsFieldBlock b → axis < b.layout.dims → IsWithin b.layout.cells i →
    is_finer_in b.mesh (cell_across b.mesh (cell_in b.mesh b.leaf i) axis high) ≡ true → IsAtSide b.layout axis high i
finer_is_beside b i axis true sound used w finer =
    let h = three_axes b axis sound used in
    let u : ℕ = slice_index i axis in
    let below = within_along b.layout.cells i axis w h in
    elim (cases_lt (u + 1) (layout_cells b.layout axis)) [
      | inl room ↦ absurd (false≢true (sym (on_leaf_is b (with_along axis (u + 1) i) (cell_across b.mesh (cell_in b.mesh b.leaf i) axis true) sound (within_with b.layout.cells i axis (u + 1) w h room)
          (across_up b.mesh b.leaf i axis sound.leaf.inside h (subst (λ n. u + 1 < n) (same_cells b axis sound) room))) ∙ finer))
      | inr last ↦ omega arith
    ]
finer_is_beside b i axis false sound used w finer =
    let h = three_axes b axis sound used in
    let u : ℕ = slice_index i axis in
    let below = within_along b.layout.cells i axis w h in
    elim (cases_eq u 0) [
      | inl first ↦ first
      | inr later ↦
          let x : ℕ = u - 1 in
          absurd (false≢true (sym (on_leaf_is b (with_along axis x i) (cell_across b.mesh (cell_in b.mesh b.leaf i) axis false) sound (within_with b.layout.cells i axis x w h (omega arith))
          (across_down b.mesh b.leaf i axis x h (omega arith))) ∙ finer))
    ]

none_is_not : (m : Mesh) → is_finer_in m None ≡ true → ⊥
none_is_not m h = false≢true h

-- the face of a cell behind which finer cells are stored
corrected_there : (b : FieldBlock) (rights lefts : Loc → List ℕ) (right left i : List ℕ) (axis : ℕ) (high : Bool) → IsBeside b axis high i → HaveOwnPairs b rights lefts → IsCorrected b rights lefts right left
    → is_finer_in b.mesh (cell_across b.mesh (cell_in b.mesh b.leaf i) axis high) ≡ true → (o : Option Loc) → across b.mesh.shape b.leaf axis high ≡ o → HasPair b.layout right left i axis high (pair_of b i axis high)
corrected_there b rights lefts right left i axis high beside have fixed finer None meets =
    let h = three_axes b axis beside.sound beside.used in
    let nothing : cell_across b.mesh (cell_in b.mesh b.leaf i) axis high ≡ None =
    across_beyond b.mesh b.leaf i axis high beside.sound.mesh beside.sound.leaf.inside h (beside.at ∙ ap (λ n. end_of n high) (same_cells b axis beside.sound))
    ∙ ap (option_map (λ o. cell_in b.mesh o (with_along axis (end_of (cells_along b.mesh axis) (not high)) i))) meets in
    absurd (none_is_not b.mesh (sym (ap (is_finer_in b.mesh) nothing) ∙ finer))
corrected_there b rights lefts right left i axis high beside have fixed finer (Some o) meets =
    let m : Mesh = b.mesh in
    let d : ℕ = m.shape.dims in
    let q : List ℕ = across_index m axis high 0 i in
    let j : ℕ = child_at m q in
    let w = within_across b axis high i 0 beside (omega arith) in
    let lies = lies_in_child m q (sizes b beside.sound) w in
    let inner : is_inner m o ≡ true = sym (ap (is_inner m) (block_of_cell_in m o q w)) ∙ sym (ap (is_finer_in m) (first_across b axis high o i beside meets)) ∙ finer in
    let leaf = finer_leaf b axis high o j i 0 beside (omega arith) meets inner lies in
    let sums = coarse_pairs b axis high o j i (rights (child d o j)) (lefts (child d o j)) beside meets (leaf_block b (child d o j) beside.sound leaf) (have (child d o j) leaf) lies in
    let pair = fixed axis high o i beside meets inner in
    (pair.0 ∙ sym (ap (λ (x : Pair). x.right) sums), pair.1 ∙ sym (ap (λ (x : Pair). x.left) sums))

pub corrected_pairs : CorrectedPairs
corrected_pairs b rights lefts right left sound have own fixed i axis high used w = by (is_finer_in b.mesh (cell_across b.mesh (cell_in b.mesh b.leaf i) axis high)) refl
  where
    by : (t : Bool) → is_finer_in b.mesh (cell_across b.mesh (cell_in b.mesh b.leaf i) axis high) ≡ t → HasPair b.layout right left i axis high (pair_of b i axis high)
    by false e = own i axis high used w e
    by true e =
        let beside : IsBeside b axis high i = record { sound = sound; used = used; within = w; at = finer_is_beside b i axis high sound used w e } in
        corrected_there b rights lefts right left i axis high beside have fixed e (across b.mesh.shape b.leaf axis high) refl
