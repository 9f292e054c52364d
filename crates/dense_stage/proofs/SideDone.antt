-- All faces at a side have the mesh's pairs.
use Rattle.std.proofs.Common.{◌≡◌, ℕ, zero, suc, ◌+◌, ◌*◌, ◌/◌, ◌%◌, ◌<◌, ◌≤◌, Bool, true, false, cond, not, Some, None, Option, List, length, refl, arith, ap, sym, ◌∙◌}
use Rattle.std.specs.List.{slice_get}
use Rattle.std.specs.Option.{option_map}
use Rattle.std.proofs.lemmas.Bool.{false≢true}
use Rattle.morton_order.specs.declared.space.Loc.{Loc}
use Rattle.morton_order.specs.Space.{factor, parts}
use Rattle.morton_order.specs.Neighbours.{across}
use Rattle.block_tree.specs.declared.neighbour.Behind.{Behind as Answer}
use Rattle.block_tree.specs.declared.neighbour.Behind.TheVariants.{Fine}
use Rattle.block_tree.specs.Behind.{behind, behind_at}
use Rattle.block_tree.specs.Blocks.{TreeOfBlocks, is_inner_of, leaves}
use Rattle.block_tree.specs.Numbered.{numbered}
use Rattle.mesh_rules.specs.Mesh.{Mesh, cells_along, is_inner}
use Rattle.mesh_rules.specs.Faces.{cell_across}
use Rattle.block_layout.specs.declared.layout.Layout.{Layout}
use Rattle.block_layout.specs.Indices.{IsWithin, with_along}
use Rattle.block_geometry.specs.Blocks.{FieldBlock, IsAtSide, IsFieldBlock, cell_in, end_of}
use Rattle.block_geometry.specs.Contents.{HasPair, HasPairs, is_finer_in, pair_of}
use Rattle.block_geometry.proofs.Cells.{across_beyond, block_of_cell_in}
use Rattle.block_geometry.proofs.Rows.{within_with}
use Rattle.block_geometry.proofs.Seen.{in_mesh, same_cells, three_axes}
use Rattle.ghost_laws.specs.Given.{IsBeside}
use Rattle.ghost_laws.specs.Layers.{across_index}
use Rattle.ghost_laws.specs.Refined.{child_at}
use Rattle.ghost_laws.proofs.Layers.{sizes, used_in, within_across}
use Rattle.ghost_laws.proofs.Meeting.{sender_half}
use Rattle.ghost_laws.proofs.Senders.{lies_in_child}
use Rattle.flux_laws.proofs.AllPairs.{finer_is_beside}
use Rattle.correction_laws.specs.Replaced.{Covers, half_of}
use Rattle.correction_laws.proofs.Digits.{child_of}
use Rattle.dense_mesh.specs.Ghosts.{list_at}
use Rattle.dense_stage.specs.declared.face_lists.FaceLists.{FaceLists}
use Rattle.dense_stage.specs.Blocks.{FieldMesh, HasOwn, HasSidePairs, HaveOwn, IsSoundMesh, NoneFiner, NoneFinerAt, block_in}
use Rattle.leaf_stages.proofs.Behinds.{inner_is_fine}
use Rattle.dense_stage.proofs.Children.{child_again}
use Rattle.dense_stage.proofs.LeafFlows.{sound_block}
use Rattle.dense_stage.proofs.PartSteps.{FineSide, few_finer}

-- the number of a child by its bits
parts_below : (dims j x y z : ℕ) → 1 ≤ dims → dims ≤ 3 → x ≡ j % factor dims 0 → y ≡ j / 2 % factor dims 1 → z ≡ j / 4 % factor dims 2 → j ≡ x + 2 * y + 4 * z → j < parts dims
parts_below zero j x y z a b p q r e = absurd (omega arith)
parts_below (suc zero) j x y z a b p q r e = omega arith
parts_below (suc (suc zero)) j x y z a b p q r e = omega arith
parts_below (suc (suc (suc zero))) j x y z a b p q r e = omega arith
parts_below (suc (suc (suc (suc d)))) j x y z a b p q r e = absurd (omega arith)

turned : (high : Bool) → cond {A = ℕ} high 0 1 ≡ cond (not high) 1 0
turned true = refl
turned false = refl

pub side_done : (t : TreeOfBlocks) (l : Layout) (x : FieldMesh) (leaf axis : ℕ) (high : Bool) (finer : List ℕ) (r : Loc) (right left : List ℕ) → FineSide t l x leaf axis high finer r →
    ((k : ℕ) (i : List ℕ) → k < length finer → Covers (block_in t l x r) axis high (child_of axis (not high) k) i → HasPair l right left i axis high (pair_of (block_in t l x r) i axis high)) → HasSidePairs (block_in t l x r) axis high right left
side_done t l x leaf axis high finer r right left s each i w at =
    let b : FieldBlock = block_in t l x r in
    let m : Mesh = b.mesh in
    let d : ℕ = m.shape.dims in
    let sound = sound_block t l x leaf r s.sound s.get in
    let beside : IsBeside b axis high i = record { sound = sound; used = s.used; within = w; at = at } in
    let q : List ℕ = across_index m axis high 0 i in
    let j : ℕ = child_at m q in
    let lies = lies_in_child m q (sizes b sound) (within_across b axis high i 0 beside (omega arith)) in
    let bit = sender_half b axis high j i 0 beside (omega arith) lies ∙ turned high in
    let below = parts_below d j _ _ _ s.sound.mesh.shape.least s.sound.mesh.shape.most lies.along1 lies.along2 lies.along3 refl in
    let again = child_again d axis j (cond (not high) 1 0) (used_in b axis sound s.used) s.sound.mesh.shape.most below bit in
    let many = few_finer t l x leaf axis high finer r s in
    each (half_of axis j) i (omega (arith, again.1, many)) (record { beside = beside; child = sym again.0 })

-- a side behind which no finer leaves stand
none_is_not : (m : Mesh) → is_finer_in m None ≡ true → ⊥
none_is_not m h = false≢true h

no_finer : (b : FieldBlock) (axis : ℕ) (high : Bool) (i : List ℕ) → IsFieldBlock b → axis < b.layout.dims → IsWithin b.layout.cells i → IsAtSide b.layout axis high i → ((o : Loc) → across b.mesh.shape b.leaf axis high ≡ Some o → is_inner b.mesh o ≡ true → ⊥) →
    is_finer_in b.mesh (cell_across b.mesh (cell_in b.mesh b.leaf i) axis high) ≡ true → ⊥
no_finer b axis high i sound used w at none finer = by (across b.mesh.shape b.leaf axis high) refl
  where
    there : (v : Option Loc) → across b.mesh.shape b.leaf axis high ≡ v → cell_across b.mesh (cell_in b.mesh b.leaf i) axis high ≡ option_map (λ o. cell_in b.mesh o (with_along axis (end_of (cells_along b.mesh axis) (not high)) i)) v
    there v e =
        across_beyond b.mesh b.leaf i axis high sound.mesh sound.leaf.inside (three_axes b axis sound used) (at ∙ ap (λ n. end_of n high) (same_cells b axis sound))
        ∙ ap (option_map (λ o. cell_in b.mesh o (with_along axis (end_of (cells_along b.mesh axis) (not high)) i))) e

    end_below : (n : ℕ) (high : Bool) → 1 ≤ n → end_of n high < n
    end_below n true h = omega arith
    end_below n false h = omega arith

    by : (v : Option Loc) → across b.mesh.shape b.leaf axis high ≡ v → ⊥
    by None e = none_is_not b.mesh (sym (ap (is_finer_in b.mesh) (there None e)) ∙ finer)
    by (Some o) e =
        let h = three_axes b axis sound used in
        let f : List ℕ = with_along axis (end_of (cells_along b.mesh axis) (not high)) i in
        none o e
        (sym (ap (is_inner b.mesh) (block_of_cell_in b.mesh o f (within_with b.mesh.cells i axis (end_of (cells_along b.mesh axis) (not high)) (in_mesh b i sound w) h (end_below (cells_along b.mesh axis) (not high) (sound.mesh.some_cells axis h)))))
        ∙ sym (ap (is_finer_in b.mesh) (there (Some o) e)) ∙ finer)

-- the own pairs are those of a side where no inner node lies across
pub own_side : (b : FieldBlock) (axis : ℕ) (high : Bool) (right left : List ℕ) → IsFieldBlock b → axis < b.layout.dims → HasOwn b right left → ((o : Loc) → across b.mesh.shape b.leaf axis high ≡ Some o → is_inner b.mesh o ≡ true → ⊥) → HasSidePairs b axis high right left
own_side b axis high right left sound used own none i w at = by (is_finer_in b.mesh (cell_across b.mesh (cell_in b.mesh b.leaf i) axis high)) refl
  where
    by : (v : Bool) → is_finer_in b.mesh (cell_across b.mesh (cell_in b.mesh b.leaf i) axis high) ≡ v → HasPair b.layout right left i axis high (pair_of b i axis high)
    by false e = own.pairs i axis high used w e
    by true e = absurd (no_finer b axis high i sound used w at none e)

-- nothing finer lies across a side behind which no finer leaves stand
pub none_finer : (t : TreeOfBlocks) (axis : ℕ) (high : Bool) (r : Loc) (a : Answer) → numbered (leaves t) (behind t.shape (is_inner_of t) r axis high) ≡ Some a → ((ns : List ℕ) → a ≡ Fine ns → ⊥) → NoneFinerAt t r axis high
none_finer t axis high r a is other o meets inner =
    let f = inner_is_fine t.shape (is_inner_of t) (leaves t) axis high o a inner (ap (λ (v : Option Loc). numbered (leaves t) (behind_at t.shape (is_inner_of t) axis high v)) (sym meets) ∙ is) in other f.0 f.1

pub not_fine_side : (t : TreeOfBlocks) (l : Layout) (x : FieldMesh) (leaf axis : ℕ) (high : Bool) (r : Loc) (a : Answer) (faces : FaceLists) → IsSoundMesh t l x → axis < l.dims → slice_get (leaves t) leaf ≡ Some r →
    numbered (leaves t) (behind t.shape (is_inner_of t) r axis high) ≡ Some a → ((ns : List ℕ) → a ≡ Fine ns → ⊥) → HaveOwn t l x faces → HasSidePairs (block_in t l x r) axis high (list_at faces.right.items leaf) (list_at faces.left.items leaf)
not_fine_side t l x leaf axis high r a faces sound used get is other own =
    own_side (block_in t l x r) axis high (list_at faces.right.items leaf) (list_at faces.left.items leaf) (sound_block t l x leaf r sound get) used (own leaf r get) (none_finer t axis high r a is other)

-- all sides
pub all_pairs : (b : FieldBlock) (right left : List ℕ) → IsFieldBlock b → HasOwn b right left → ((axis : ℕ) (high : Bool) → axis < b.layout.dims → HasSidePairs b axis high right left) → HasPairs b right left
all_pairs b right left sound own sides i axis high used w = by (is_finer_in b.mesh (cell_across b.mesh (cell_in b.mesh b.leaf i) axis high)) refl
  where
    by : (v : Bool) → is_finer_in b.mesh (cell_across b.mesh (cell_in b.mesh b.leaf i) axis high) ≡ v → HasPair b.layout right left i axis high (pair_of b i axis high)
    by false e = own.pairs i axis high used w e
    by true e = sides axis high used i w (finer_is_beside b i axis high sound used w e)

-- where nothing finer lies across any side, the own pairs are those of all faces
pub plain_pairs : (t : TreeOfBlocks) (l : Layout) (x : FieldMesh) (leaf : ℕ) (r : Loc) (right left : List ℕ) → IsSoundMesh t l x → slice_get (leaves t) leaf ≡ Some r → HasOwn (block_in t l x r) right left → NoneFiner l.dims t r → HasPairs (block_in t l x r) right left
plain_pairs t l x leaf r right left sound get own none =
    let s = sound_block t l x leaf r sound get in
    all_pairs (block_in t l x r) right left s own (λ axis high used. own_side (block_in t l x r) axis high right left s used own (none axis high used))
