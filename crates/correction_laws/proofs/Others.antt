-- The faces that a part is not put to.
use Rattle.std.proofs.Common.{◌≡◌, ℕ, zero, suc, ◌+◌, ◌*◌, ◌/◌, ◌<◌, Bool, true, false, cond, not, nat_lt, List, refl, arith, ap, subst, sym, ◌∙◌, slice_index}
use Rattle.std.proofs.lemmas.Bool.Decides.{nat_tests}
use Rattle.morton_order.specs.Space.{factor, parts}
use Rattle.block_tree.specs.Behind.{is_high_half}
use Rattle.mesh_rules.specs.Mesh.{Mesh}
use Rattle.block_layout.specs.declared.layout.Layout.{Layout}
use Rattle.block_layout.specs.Sizes.{IsCellCount, IsLayout}
use Rattle.block_layout.specs.Indices.{IsWithin, added, with_along}
use Rattle.block_layout.specs.Layouts.{cells_along}
use Rattle.block_layout.specs.Faces.{face_extents, face_number, face_of}
use Rattle.block_layout.specs.Laws.{IsSame}
use Rattle.block_layout.specs.Regions.{half_along}
use Rattle.block_layout.proofs.Boxes.{mod_below}
use Rattle.block_layout.proofs.FaceNumbers.{one_axis, one_index}
use Rattle.block_geometry.specs.Blocks.{end_of}
use Rattle.block_laws.proofs.OwnPairs.{face_within}
use Rattle.ghost_laws.specs.Layers.{across_index, layer_along}
use Rattle.ghost_laws.specs.Refined.{child_at, halves_of}
use Rattle.ghost_laws.proofs.Layers.{count_at}
use Rattle.ghost_laws.proofs.Meeting.{two_parts}
use Rattle.restrict_prolong.proofs.Halves.{factor_least}
use Rattle.flux_correct.specs.Sums.{coarse_extents}
use Rattle.flux_correct.specs.Corrected.{IsCorrected, covered}
use Rattle.correction_laws.specs.Replaced.{half_of}
use Rattle.correction_laws.proofs.Digits.{at_last_face, first_half, from_bits, half_again, half_digit, own_bit, placed_below}
use Rattle.correction_laws.proofs.Covered.{differ, differ', shaped, sized1, sized2, sized3}

half_below : (dims axis half c : ℕ) → half_along dims axis half c < factor dims c
half_below dims axis half c = mod_below _ (factor dims c) (factor_least dims c)

-- the faces of a part are faces of the block
first_below : (n u : ℕ) (high : Bool) → u < 1 → cond high n 0 + 0 + u < n + 1
first_below n u true h = omega arith
first_below n u false h = omega arith

pub covered_within : (l : Layout) (axis : ℕ) (high : Bool) (half : ℕ) (u : List ℕ) → axis < 3 → IsLayout l.dims l.cells → IsWithin (coarse_extents l axis) u → IsWithin (face_extents l axis) (added (covered l axis high half).low u)
covered_within l zero high half u h s w = record {
  along1 = first_below (cells_along l 0) (slice_index u 0) high w.along1;
  along2 = placed_below (nat_lt 1 l.dims) (cells_along l 1) (slice_index u 1) (half_along l.dims 0 half 1) (sized2 l s) (half_below l.dims 0 half 1) w.along2;
  along3 = placed_below (nat_lt 2 l.dims) (cells_along l 2) (slice_index u 2) (half_along l.dims 0 half 2) (sized3 l s) (half_below l.dims 0 half 2) w.along3;
}
covered_within l (suc zero) high half u h s w = record {
  along1 = placed_below (nat_lt 0 l.dims) (cells_along l 0) (slice_index u 0) (half_along l.dims 1 half 0) (sized1 l s) (half_below l.dims 1 half 0) w.along1;
  along2 = first_below (cells_along l 1) (slice_index u 1) high w.along2;
  along3 = placed_below (nat_lt 2 l.dims) (cells_along l 2) (slice_index u 2) (half_along l.dims 1 half 2) (sized3 l s) (half_below l.dims 1 half 2) w.along3;
}
covered_within l (suc (suc zero)) high half u h s w = record {
  along1 = placed_below (nat_lt 0 l.dims) (cells_along l 0) (slice_index u 0) (half_along l.dims 2 half 0) (sized1 l s) (half_below l.dims 2 half 0) w.along1;
  along2 = placed_below (nat_lt 1 l.dims) (cells_along l 1) (slice_index u 1) (half_along l.dims 2 half 1) (sized2 l s) (half_below l.dims 2 half 1) w.along2;
  along3 = first_below (cells_along l 2) (slice_index u 2) high w.along3;
}
covered_within l (suc (suc (suc a))) high half u h s w = absurd (omega arith)

-- the child across that covers a face
child_is : (a b c x y z j : ℕ) → a ≡ x → b ≡ y → c ≡ z → x + 2 * y + 4 * z ≡ j → a + 2 * b + 4 * c ≡ j
child_is a b c x y z j e f g h = omega arith

lower_used : (d : ℕ) → nat_lt 1 d ≡ true → nat_lt 0 d ≡ true
lower_used d h = grind (arith, nat_tests)

middle_used : (d : ℕ) → nat_lt 2 d ≡ true → nat_lt 1 d ≡ true
middle_used d h = grind (arith, nat_tests)

whole_child : (dims j : ℕ) → j < parts dims → slice_index (halves_of dims j) 0 + 2 * slice_index (halves_of dims j) 1 + 4 * slice_index (halves_of dims j) 2 ≡ j
whole_child dims j h = from_bits (nat_lt 0 dims) (nat_lt 1 dims) (nat_lt 2 dims) j h (lower_used dims) (middle_used dims)

own_half : (l : Layout) (axis : ℕ) (high : Bool) (j x : ℕ) → IsLayout l.dims l.cells → axis < l.dims → axis < 3 → is_high_half j axis ≡ not high → x ≡ layer_along (cells_along l axis) high 0 →
    x / (cells_along l axis / factor l.dims axis) ≡ slice_index (halves_of l.dims j) axis
own_half l axis high j x s used h bit e =
    let c : IsCellCount l.dims axis (cells_along l axis) = count_at l.dims axis l.cells s h in
    ap (λ f. x / (cells_along l axis / f)) (two_parts l.dims axis used)
    ∙ first_half (cells_along l axis) x high (c.wide used) (c.even used) e
    ∙ sym (own_bit l.dims j axis (not high) used h bit)

-- what is known of a cell whose face is one of the part's
pub record Found (l : Layout) (m : Mesh) (axis : ℕ) (high : Bool) (j : ℕ) (i : List ℕ) (side : Bool) : Type 0 where
  pub side_is : side ≡ high
  pub at : slice_index i axis ≡ end_of (cells_along l axis) high
  pub child : child_at (shaped l m) (across_index (shaped l m) axis high 0 i) ≡ j

-- a child at a side
pub record AtSide (l : Layout) (axis : ℕ) (high : Bool) (j : ℕ) : Type 0 where
  pub fit : IsLayout l.dims l.cells
  pub used : axis < l.dims
  pub child : j < parts l.dims
  pub half : is_high_half j axis ≡ not high

pub found : (l : Layout) (m : Mesh) (axis : ℕ) (high : Bool) (j : ℕ) (i : List ℕ) (side : Bool) (u : List ℕ) → AtSide l axis high j → IsWithin l.cells i → IsWithin (coarse_extents l axis) u →
    IsSame (with_along axis (slice_index i axis + cond side 1 0) i) (added (covered l axis high (half_of axis j)).low u) → Found l m axis high j i side
found l m zero high j i side u s w v same =
    let d : ℕ = l.dims in
    let last = at_last_face (cells_along l 0) (slice_index i 0) (slice_index u 0) side high w.along1 v.along1 same.along1 in
    record {
      side_is = last.0;
      at = last.1;
      child = child_is _ _ _ (slice_index (halves_of d j) 0) (slice_index (halves_of d j) 1) (slice_index (halves_of d j) 2) j
          (own_half l 0 high j (layer_along (cells_along l 0) high 0) s.fit s.used (omega arith) s.half refl)
          (half_again (nat_lt 1 d) (cells_along l 1) (slice_index i 1) (slice_index u 1) (half_along d 0 (half_of 0 j) 1) (sized2 l s.fit) (half_below d 0 (half_of 0 j) 1) v.along2 same.along2 ∙ half_digit d 0 1 j (omega arith) (omega arith) (differ 0 1 (omega arith)))
          (half_again (nat_lt 2 d) (cells_along l 2) (slice_index i 2) (slice_index u 2) (half_along d 0 (half_of 0 j) 2) (sized3 l s.fit) (half_below d 0 (half_of 0 j) 2) v.along3 same.along3 ∙ half_digit d 0 2 j (omega arith) (omega arith) (differ 0 2 (omega arith)))
          (whole_child d j s.child);
    }
found l m (suc zero) high j i side u s w v same =
    let d : ℕ = l.dims in
    let last = at_last_face (cells_along l 1) (slice_index i 1) (slice_index u 1) side high w.along2 v.along2 same.along2 in
    record {
      side_is = last.0;
      at = last.1;
      child = child_is _ _ _ (slice_index (halves_of d j) 0) (slice_index (halves_of d j) 1) (slice_index (halves_of d j) 2) j
          (half_again (nat_lt 0 d) (cells_along l 0) (slice_index i 0) (slice_index u 0) (half_along d 1 (half_of 1 j) 0) (sized1 l s.fit) (half_below d 1 (half_of 1 j) 0) v.along1 same.along1 ∙ half_digit d 1 0 j (omega arith) (omega arith) (differ' 0 1 (omega arith)))
          (own_half l 1 high j (layer_along (cells_along l 1) high 0) s.fit s.used (omega arith) s.half refl)
          (half_again (nat_lt 2 d) (cells_along l 2) (slice_index i 2) (slice_index u 2) (half_along d 1 (half_of 1 j) 2) (sized3 l s.fit) (half_below d 1 (half_of 1 j) 2) v.along3 same.along3 ∙ half_digit d 1 2 j (omega arith) (omega arith) (differ 1 2 (omega arith)))
          (whole_child d j s.child);
    }
found l m (suc (suc zero)) high j i side u s w v same =
    let d : ℕ = l.dims in
    let last = at_last_face (cells_along l 2) (slice_index i 2) (slice_index u 2) side high w.along3 v.along3 same.along3 in
    record {
      side_is = last.0;
      at = last.1;
      child = child_is _ _ _ (slice_index (halves_of d j) 0) (slice_index (halves_of d j) 1) (slice_index (halves_of d j) 2) j
          (half_again (nat_lt 0 d) (cells_along l 0) (slice_index i 0) (slice_index u 0) (half_along d 2 (half_of 2 j) 0) (sized1 l s.fit) (half_below d 2 (half_of 2 j) 0) v.along1 same.along1 ∙ half_digit d 2 0 j (omega arith) (omega arith) (differ' 0 2 (omega arith)))
          (half_again (nat_lt 1 d) (cells_along l 1) (slice_index i 1) (slice_index u 1) (half_along d 2 (half_of 2 j) 1) (sized2 l s.fit) (half_below d 2 (half_of 2 j) 1) v.along2 same.along2 ∙ half_digit d 2 1 j (omega arith) (omega arith) (differ' 1 2 (omega arith)))
          (own_half l 2 high j (layer_along (cells_along l 2) high 0) s.fit s.used (omega arith) s.half refl)
          (whole_child d j s.child);
    }
found l m (suc (suc (suc a))) high j i side u s w v same = absurd (omega (arith, s.used, s.fit.most))

-- a face that is none of the part's has what it had
pub other_stays : (l : Layout) (m : Mesh) (axis : ℕ) (high : Bool) (j : ℕ) (i : List ℕ) (along : ℕ) (side : Bool) (from : ℕ) (part old new : List ℕ) → AtSide l axis high j → along < l.dims → IsWithin l.cells i →
    ((along ≡ axis) × Found l m axis high j i side → ⊥) → IsCorrected l axis high (half_of axis j) from part old new → slice_index new (face_of l i along side) ≡ slice_index old (face_of l i along side)
other_stays l m axis high j i along side from part old new s used w apart put =
    put.others (face_of l i along side) (λ u v e.
    let three : axis < 3 = omega (arith, s.used, s.fit.most) in
    let here = covered_within l axis high (half_of axis j) u three s.fit v in
    let one : along ≡ axis = one_axis l along axis (with_along along (slice_index i along + cond side 1 0) i) (added (covered l axis high (half_of axis j)).low u) s.fit used s.used (face_within l along side i w (omega (arith, s.fit.most))) here e in
    let there : face_of l i axis side ≡ face_number l axis (added (covered l axis high (half_of axis j)).low u) = subst (λ a. face_of l i a side ≡ face_number l axis (added (covered l axis high (half_of axis j)).low u)) one e in
    let same = one_index l axis (with_along axis (slice_index i axis + cond side 1 0) i) (added (covered l axis high (half_of axis j)).low u) s.fit s.used (face_within l axis side i w three) here there in
    apart (one, found l m axis high j i side u s w v same))
