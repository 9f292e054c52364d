-- The sums in a flux part fit a word.
use Rattle.std.proofs.Common.{◌≡◌, ℕ, zero, suc, ◌+◌, ◌-◌, ◌*◌, ◌%◌, ◌^◌, ◌<◌, ◌≤◌, Bool, true, false, cond, not, Some, List, refl, arith, ap, subst, sym, ◌∙◌, slice_index, inl, inr}
use Rattle.std.specs.Option.{option_map}
use Rattle.std.proofs.lemmas.Bool.{cases_lt}
use Rattle.morton_order.specs.declared.space.Loc.{Loc}
use Rattle.morton_order.specs.Space.{axis_of, child, factor, parent}
use Rattle.morton_order.specs.Neighbours.{across}
use Rattle.morton_order.proofs.Crossing.{across-back, across-half, crossed_level}
use Rattle.morton_order.proofs.Family.{parent-child}
use Rattle.mesh_rules.specs.Sums.{sum_to}
use Rattle.mesh_rules.specs.Mesh.{Mesh, block_of, cells_along, is_inner}
use Rattle.mesh_rules.specs.Faces.{cell_across}
use Rattle.block_layout.specs.declared.layout.Layout.{Layout}
use Rattle.block_layout.specs.Sizes.{IsLayout}
use Rattle.block_layout.specs.Indices.{IsWithin, added, count_of, with_along}
use Rattle.block_layout.specs.Layouts.{cells_along as layout_cells}
use Rattle.block_layout.specs.Faces.{face_number, face_of}
use Rattle.block_geometry.specs.Blocks.{FieldBlock, IsFieldBlock, cell_in, end_of}
use Rattle.block_geometry.specs.Contents.{is_finer_in}
use Rattle.block_geometry.proofs.Cells.{across_beyond, block_of_cell_in}
use Rattle.block_geometry.proofs.Rows.{along_with, within_with}
use Rattle.block_geometry.proofs.Seen.{in_mesh, same_cells, three_axes}
use Rattle.ghost_laws.specs.Layers.{on_block}
use Rattle.ghost_laws.specs.Refined.{halves_of}
use Rattle.ghost_laws.proofs.Layers.{used_in}
use Rattle.ghost_laws.proofs.Meeting.{Meets, not_inner, two_parts}
use Rattle.restrict_prolong.specs.Refined.{part_index}
use Rattle.restrict_prolong.proofs.Halves.{same_three}
use Rattle.restrict_prolong.proofs.Restored.{part_within}
use Rattle.flux_correct.specs.Sums.{coarse_extents, face_factors, side_faces}
use Rattle.flux_correct.specs.Boxes.{SumsBelow}
use Rattle.flux_correct.proofs.FaceBoxes.{refined_faces}
use Rattle.correction_laws.specs.Replaced.{IsNextTo}
use Rattle.correction_laws.proofs.Digits.{few_halves, own_bit}

-- sums of at most four numbers
sum_most : (n : ℕ) (f : ℕ → ℕ) → ((k : ℕ) → k < n → f k < 2 ^ 62) → sum_to n f ≤ n * (2 ^ 62 - 1)
sum_most zero f h = omega arith
sum_most (suc n) f h = let a = sum_most n f (λ k l. h k (omega (arith, l))) in let b = h n (omega arith) in omega (arith, a, b)

four_fit : (n : ℕ) (f : ℕ → ℕ) → n ≤ 4 → ((k : ℕ) → k < n → f k < 2 ^ 62) → sum_to n f < 2 ^ 64
four_fit n f few h = let a = sum_most n f h in omega (arith, a, few)

few_parts : (dims axis : ℕ) → axis < dims → dims ≤ 3 → count_of (face_factors dims axis) ≤ 4
few_parts dims axis h l = elim (cases_lt 4 (count_of (face_factors dims axis))) [
  | inl more ↦ absurd (omega (arith, few_halves dims axis 4 h l more))
  | inr few ↦ few
]

-- a block at a side of which a finer one stands lies across that one's own side, as its parent's neighbour
first_end : (o d : ℕ) (high : Bool) → d ≡ cond (not high) 1 0 → (2 * o + d) % 2 ≡ cond (not high) 1 0
first_end o d true e = omega arith
first_end o d false e = omega arith

child_along : (dims : ℕ) (o : Loc) (j axis : ℕ) → axis < 3 → axis_of (child dims o j) axis ≡ factor dims axis * axis_of o axis + slice_index (halves_of dims j) axis
child_along dims o j zero h = refl
child_along dims o j (suc zero) h = refl
child_along dims o j (suc (suc zero)) h = refl
child_along dims o j (suc (suc (suc a))) h = absurd (omega arith)

meets_of : (b : FieldBlock) (axis : ℕ) (high : Bool) (o : Loc) (j : ℕ) → IsNextTo b axis high j → across b.mesh.shape b.leaf axis high ≡ Some o → IsFieldBlock (on_block b (child b.mesh.shape.dims o j)) → Meets b axis high o j
meets_of b axis high o j next meets finer =
    let m : Mesh = b.mesh in
    let d : ℕ = m.shape.dims in
    let s : Loc = child d o j in
    let h = three_axes b axis next.sound next.used in
    let used = used_in b axis next.sound next.used in
    let back : across m.shape o axis (not high) ≡ Some b.leaf = across-back m.shape b.leaf o axis high next.sound.leaf.inside h meets in
    let up : across m.shape (parent d s) axis (not high) ≡ Some b.leaf = ap (λ (v : Loc). across m.shape v axis (not high)) (parent-child d o j) ∙ back in
    let half = own_bit d j axis (not high) used h next.half in
    let coordinate : axis_of s axis ≡ 2 * axis_of o axis + slice_index (halves_of d j) axis = child_along d o j axis h ∙ ap (λ v. v * axis_of o axis + slice_index (halves_of d j) axis) (two_parts d axis used) in
    let outer : axis_of s axis % 2 ≡ cond (not high) 1 0 = ap (λ v. v % 2) coordinate ∙ first_end (axis_of o axis) (slice_index (halves_of d j) axis) high half in
    let (x, crosses, above) = across-half m.shape next.sound.mesh.shape.most s b.leaf axis (not high) used finer.leaf.inside (omega arith) outer up in
    let level = crossed_level m.shape s axis (not high) x crosses in
    record { x = x; crosses = crosses; above = above; deep = omega arith }

-- the finer faces that a coarser one has behind it, as faces of cells

same_end : (n p : ℕ) (side : Bool) → 1 ≤ n → p < 1 → cond side n 0 + p ≡ end_of n side + cond side 1 0
same_end n p true h k = omega arith
same_end n p false h k = omega arith

same_rest : (p : ℕ) → 0 + p ≡ p
same_rest p = omega arith

side_face : (l : Layout) (axis : ℕ) (side : Bool) (p : List ℕ) → axis < 3 → 1 ≤ layout_cells l axis → IsWithin (with_along axis 1 l.cells) p →
    added (side_faces l axis side).low p ≡ with_along axis (slice_index (with_along axis (end_of (layout_cells l axis) side) p) axis + cond side 1 0) (with_along axis (end_of (layout_cells l axis) side) p)
side_face l zero side p h some w = same_three _ _ _ _ _ _ (same_end (layout_cells l 0) (slice_index p 0) side some w.along1) (same_rest (slice_index p 1)) (same_rest (slice_index p 2))
side_face l (suc zero) side p h some w = same_three _ _ _ _ _ _ (same_rest (slice_index p 0)) (same_end (layout_cells l 1) (slice_index p 1) side some w.along2) (same_rest (slice_index p 2))
side_face l (suc (suc zero)) side p h some w = same_three _ _ _ _ _ _ (same_rest (slice_index p 0)) (same_rest (slice_index p 1)) (same_end (layout_cells l 2) (slice_index p 2) side some w.along3)
side_face l (suc (suc (suc a))) side p h some w = absurd (omega arith)

end_below : (n : ℕ) (side : Bool) → 1 ≤ n → end_of n side < n
end_below n true h = omega arith
end_below n false h = omega arith

side_within : (n : List ℕ) (axis : ℕ) (side : Bool) (p : List ℕ) → axis < 3 → 1 ≤ slice_index n axis → IsWithin (with_along axis 1 n) p → IsWithin n (with_along axis (end_of (slice_index n axis) side) p)
side_within n zero side p h some w = record { along1 = end_below (slice_index n 0) side some; along2 = w.along2; along3 = w.along3 }
side_within n (suc zero) side p h some w = record { along1 = w.along1; along2 = end_below (slice_index n 1) side some; along3 = w.along3 }
side_within n (suc (suc zero)) side p h some w = record { along1 = w.along1; along2 = w.along2; along3 = end_below (slice_index n 2) side some }
side_within n (suc (suc (suc a))) side p h some w = absurd (omega arith)

-- what is asked of a list at the faces behind which no finer cells are stored
abbrev pub IsSmallAtOwn : FieldBlock → List ℕ → Type 0
IsSmallAtOwn b list = (i : List ℕ) (axis : ℕ) (high : Bool) → axis < b.layout.dims → IsWithin b.layout.cells i → is_finer_in b.mesh (cell_across b.mesh (cell_in b.mesh b.leaf i) axis high) ≡ false → slice_index list (face_of b.layout i axis high) < 2 ^ 62

pub sums_are_small : (b : FieldBlock) (axis : ℕ) (high : Bool) (o : Loc) (j : ℕ) (list : List ℕ) → IsNextTo b axis high j → across b.mesh.shape b.leaf axis high ≡ Some o → IsFieldBlock (on_block b (child b.mesh.shape.dims o j)) →
    IsSmallAtOwn (on_block b (child b.mesh.shape.dims o j)) list → IsLayout b.layout.dims b.layout.cells → SumsBelow (2 ^ 64) b.layout axis (not high) list
sums_are_small b axis high o j list next meets finer small fit u w =
    let m : Mesh = b.mesh in
    let l : Layout = b.layout in
    let d : ℕ = l.dims in
    let side : Bool = not high in
    let s : Loc = child m.shape.dims o j in
    let h = three_axes b axis next.sound next.used in
    let n : ℕ = layout_cells l axis in
    let same = same_cells b axis next.sound in
    let some : 1 ≤ n = omega (arith, same, next.sound.mesh.some_cells axis h) in
    let met = meets_of b axis high o j next meets finer in
    let outer = not_inner b axis high o j next.sound met in
    four_fit (count_of (face_factors d axis)) (λ k. slice_index list (face_number l axis (added (side_faces l axis side).low (part_index (face_factors d axis) u k)))) (few_parts d axis next.used fit.most)
    (λ k few.
    let p : List ℕ = part_index (face_factors d axis) u k in
    let in_part : IsWithin (with_along axis 1 l.cells) p = subst (λ (v : List ℕ). IsWithin v p) (refined_faces l axis side fit next.used) (part_within (face_factors d axis) (coarse_extents l axis) u k few w) in
    let x : List ℕ = with_along axis (end_of n side) p in
    let within : IsWithin l.cells x = side_within l.cells axis side p h some in_part in
    let at : slice_index x axis ≡ end_of (cells_along m axis) side = along_with axis (end_of n side) p h ∙ ap (λ v. end_of v side) same in
    let far : List ℕ = with_along axis (end_of (cells_along m axis) (not side)) x in
    let there : cell_across m (cell_in m s x) axis side ≡ Some (cell_in m met.x far) =
    across_beyond m s x axis side next.sound.mesh finer.leaf.inside h at ∙ ap (option_map (λ v. cell_in m v far)) met.crosses in
    let in_cells : IsWithin m.cells x = in_mesh b x next.sound within in
    let block : block_of m (cell_in m met.x far) ≡ met.x = block_of_cell_in m met.x far (within_with m.cells x axis (end_of (cells_along m axis) (not side)) in_cells h (end_below (cells_along m axis) (not side) (next.sound.mesh.some_cells axis h))) in
    let free : is_finer_in m (cell_across m (cell_in m s x) axis side) ≡ false = ap (is_finer_in m) there ∙ ap (is_inner m) block ∙ outer in
    subst (λ (v : List ℕ). slice_index list (face_number l axis v) < 2 ^ 62) (sym (side_face l axis side p h some in_part)) (small x axis side next.used within free))
