-- The faces that a part of a side has, and the finer faces that make them.
use Rattle.std.proofs.Common.{◌≡◌, ◌≢◌, ℕ, zero, suc, ◌+◌, ◌*◌, ◌/◌, ◌%◌, ◌<◌, ◌≤◌, Bool, true, false, cond, nat_lt, List, [], ◌∷◌, refl, arith, sym, ◌∙◌, slice_index}
use Rattle.morton_order.specs.Space.{factor}
use Rattle.mesh_rules.specs.Mesh.{Mesh}
use Rattle.block_layout.specs.declared.layout.Layout.{Layout}
use Rattle.block_layout.specs.Sizes.{IsLayout}
use Rattle.block_layout.specs.Indices.{IsWithin, added, count_of, index_of, number_of, with_along}
use Rattle.block_layout.specs.Layouts.{cells_along}
use Rattle.block_layout.specs.Laws.{IsSame}
use Rattle.block_layout.specs.Regions.{half_along}
use Rattle.block_layout.proofs.Boxes.{number_index}
use Rattle.block_geometry.specs.Blocks.{end_of}
use Rattle.ghost_laws.specs.Layers.{across_index}
use Rattle.ghost_laws.specs.Refined.{LiesInChild, finer_index, halves_of}
use Rattle.ghost_laws.proofs.Sizes.{Sized, sized}
use Rattle.restrict_prolong.specs.Refined.{part_index}
use Rattle.restrict_prolong.proofs.Halves.{same_three}
use Rattle.flux_correct.specs.Sums.{coarse_extents, face_factors, side_faces}
use Rattle.flux_correct.specs.Corrected.{covered}
use Rattle.correction_laws.specs.Replaced.{half_of}
use Rattle.correction_laws.proofs.Digits.{back_together, bits_of_first, bits_of_second, bits_of_third, child_by, half_digit, last_face, rest_below}

-- a mesh with the blocks of a layout
abbrev pub shaped : Layout → Mesh → Mesh
shaped l m = record m { shape = record m.shape { dims = l.dims }; cells = l.cells }

-- how many cells of a block a child covers along an axis
abbrev half_of_cells : Layout → ℕ → ℕ
half_of_cells l c = cells_along l c / factor l.dims c

-- what a cell's numbers are in the half that it lies in
abbrev pub rest_along : Layout → List ℕ → ℕ → ℕ
rest_along l i c = slice_index i c % half_of_cells l c

-- its index in the part of a side that its face lies in
abbrev pub in_part : Layout → ℕ → List ℕ → List ℕ
in_part l axis i = with_along axis 0 (rest_along l i 0 ∷ rest_along l i 1 ∷ rest_along l i 2 ∷ [])

pub sized1 : (l : Layout) → IsLayout l.dims l.cells → Sized (nat_lt 0 l.dims) (cells_along l 0)
sized1 l s = sized l.dims 0 (cells_along l 0) s.cells1

pub sized2 : (l : Layout) → IsLayout l.dims l.cells → Sized (nat_lt 1 l.dims) (cells_along l 1)
sized2 l s = sized l.dims 1 (cells_along l 1) s.cells2

pub sized3 : (l : Layout) → IsLayout l.dims l.cells → Sized (nat_lt 2 l.dims) (cells_along l 2)
sized3 l s = sized l.dims 2 (cells_along l 2) s.cells3

-- this index is one of the part's
pub in_part_within : (l : Layout) (axis : ℕ) (i : List ℕ) → axis < 3 → IsLayout l.dims l.cells → IsWithin (coarse_extents l axis) (in_part l axis i)
in_part_within l zero i h s = record {
  along1 = omega arith;
  along2 = rest_below (nat_lt 1 l.dims) (cells_along l 1) (slice_index i 1) (sized2 l s);
  along3 = rest_below (nat_lt 2 l.dims) (cells_along l 2) (slice_index i 2) (sized3 l s);
}
in_part_within l (suc zero) i h s = record {
  along1 = rest_below (nat_lt 0 l.dims) (cells_along l 0) (slice_index i 0) (sized1 l s);
  along2 = omega arith;
  along3 = rest_below (nat_lt 2 l.dims) (cells_along l 2) (slice_index i 2) (sized3 l s);
}
in_part_within l (suc (suc zero)) i h s = record {
  along1 = rest_below (nat_lt 0 l.dims) (cells_along l 0) (slice_index i 0) (sized1 l s);
  along2 = rest_below (nat_lt 1 l.dims) (cells_along l 1) (slice_index i 1) (sized2 l s);
  along3 = omega arith;
}
in_part_within l (suc (suc (suc a))) i h s = absurd (omega arith)

-- a cell next to a side, in the half of the side that the child j covers
pub record InHalf (l : Layout) (m : Mesh) (axis : ℕ) (high : Bool) (j : ℕ) (i : List ℕ) : Type 0 where
  pub fit : IsLayout l.dims l.cells
  pub three : axis < 3
  pub within : IsWithin l.cells i
  pub at : slice_index i axis ≡ end_of (cells_along l axis) high
  pub lies : LiesInChild (shaped l m) j (across_index (shaped l m) axis high 0 i)

pub differ : (a b : ℕ) → a < b → b ≢ a
differ a b h e = omega arith

pub differ' : (a b : ℕ) → a < b → a ≢ b
differ' a b h e = omega arith

-- the face of the part at this index is the face of the cell
pub part_face : (l : Layout) (m : Mesh) (axis : ℕ) (high : Bool) (j : ℕ) (i : List ℕ) → InHalf l m axis high j i →
    added (covered l axis high (half_of axis j)).low (in_part l axis i) ≡ with_along axis (slice_index i axis + cond high 1 0) i
part_face l m zero high j i s =
    let d : ℕ = l.dims in
    same_three _ _ _ (slice_index i 0 + cond high 1 0) (slice_index i 1) (slice_index i 2)
    (last_face (cells_along l 0) (slice_index i 0) high s.fit.cells1.least s.at)
    (back_together (nat_lt 1 d) (cells_along l 1) (slice_index i 1) (slice_index (halves_of d j) 1) (half_along d 0 (half_of 0 j) 1) (sized2 l s.fit) s.within.along2 s.lies.along2 (half_digit d 0 1 j (omega arith) (omega arith) (differ 0 1 (omega arith))))
    (back_together (nat_lt 2 d) (cells_along l 2) (slice_index i 2) (slice_index (halves_of d j) 2) (half_along d 0 (half_of 0 j) 2) (sized3 l s.fit) s.within.along3 s.lies.along3 (half_digit d 0 2 j (omega arith) (omega arith) (differ 0 2 (omega arith))))
part_face l m (suc zero) high j i s =
    let d : ℕ = l.dims in
    same_three _ _ _ (slice_index i 0) (slice_index i 1 + cond high 1 0) (slice_index i 2)
    (back_together (nat_lt 0 d) (cells_along l 0) (slice_index i 0) (slice_index (halves_of d j) 0) (half_along d 1 (half_of 1 j) 0) (sized1 l s.fit) s.within.along1 s.lies.along1 (half_digit d 1 0 j (omega arith) (omega arith) (differ' 0 1 (omega arith))))
    (last_face (cells_along l 1) (slice_index i 1) high s.fit.cells2.least s.at)
    (back_together (nat_lt 2 d) (cells_along l 2) (slice_index i 2) (slice_index (halves_of d j) 2) (half_along d 1 (half_of 1 j) 2) (sized3 l s.fit) s.within.along3 s.lies.along3 (half_digit d 1 2 j (omega arith) (omega arith) (differ 1 2 (omega arith))))
part_face l m (suc (suc zero)) high j i s =
    let d : ℕ = l.dims in
    same_three _ _ _ (slice_index i 0) (slice_index i 1) (slice_index i 2 + cond high 1 0)
    (back_together (nat_lt 0 d) (cells_along l 0) (slice_index i 0) (slice_index (halves_of d j) 0) (half_along d 2 (half_of 2 j) 0) (sized1 l s.fit) s.within.along1 s.lies.along1 (half_digit d 2 0 j (omega arith) (omega arith) (differ' 0 2 (omega arith))))
    (back_together (nat_lt 1 d) (cells_along l 1) (slice_index i 1) (slice_index (halves_of d j) 1) (half_along d 2 (half_of 2 j) 1) (sized2 l s.fit) s.within.along2 s.lies.along2 (half_digit d 2 1 j (omega arith) (omega arith) (differ' 1 2 (omega arith))))
    (last_face (cells_along l 2) (slice_index i 2) high s.fit.cells3.least s.at)
part_face l m (suc (suc (suc a))) high j i s = absurd (omega (arith, s.three))

-- the index of its number
three_of : (axis x : ℕ) (i : List ℕ) → with_along axis x i ≡ slice_index (with_along axis x i) 0 ∷ slice_index (with_along axis x i) 1 ∷ slice_index (with_along axis x i) 2 ∷ []
three_of zero x i = refl
three_of (suc zero) x i = refl
three_of (suc (suc a)) x i = refl

pub part_index_again : (l : Layout) (axis : ℕ) (i : List ℕ) → axis < 3 → IsLayout l.dims l.cells → index_of (coarse_extents l axis) (number_of (coarse_extents l axis) (in_part l axis i)) ≡ in_part l axis i
part_index_again l axis i h s =
    let u : List ℕ = in_part l axis i in
    let e : List ℕ = coarse_extents l axis in
    let same : IsSame (index_of e (number_of e u)) u = number_index e u (in_part_within l axis i h s) in
    same_three _ _ _ (slice_index u 0) (slice_index u 1) (slice_index u 2) same.along1 same.along2 same.along3
    ∙ sym (three_of axis 0 (rest_along l i 0 ∷ rest_along l i 1 ∷ rest_along l i 2 ∷ []))

-- a finer face of those behind it is the face of a finer cell
own_place_of : (n x u k : ℕ) (side : Bool) → 1 ≤ n → x ≡ end_of n side → u ≡ 0 → k ≡ 0 → cond side n 0 + (1 * u + k) ≡ x + cond side 1 0
own_place_of n x u k true h e f g = omega arith
own_place_of n x u k false h e f g = omega arith

other_place : (f r a b : ℕ) → a ≡ b → 0 + (f * r + a) ≡ f * r + b
other_place f r a b e = omega arith

pub finer_face : (l : Layout) (m : Mesh) (axis : ℕ) (high side : Bool) (i : List ℕ) (k bit : ℕ) → IsLayout l.dims l.cells → axis < l.dims → k < count_of (face_factors l.dims axis) → bit ≤ 1 →
    slice_index (finer_index (shaped l m) (across_index (shaped l m) axis high 0 i) (child_by axis bit k)) axis ≡ end_of (cells_along l axis) side →
    added (side_faces l axis side).low (part_index (face_factors l.dims axis) (in_part l axis i) k)
    ≡ with_along axis (slice_index (finer_index (shaped l m) (across_index (shaped l m) axis high 0 i) (child_by axis bit k)) axis + cond side 1 0) (finer_index (shaped l m) (across_index (shaped l m) axis high 0 i) (child_by axis bit k))
finer_face l m zero high side i k bit fit used few small at =
    let d : ℕ = l.dims in
    let x : List ℕ = finer_index (shaped l m) (across_index (shaped l m) 0 high 0 i) (child_by 0 bit k) in
    let bits = bits_of_first d k bit used fit.most few small in
    same_three _ _ _ (slice_index x 0 + cond side 1 0) (slice_index x 1) (slice_index x 2)
    (own_place_of (cells_along l 0) (slice_index x 0) 0 (k % 1) side fit.cells1.least at refl (omega arith))
    (other_place (factor d 1) (rest_along l i 1) (k / 1 % factor d 1) ((2 * k + bit) / 2 % factor d 1) bits.0)
    (other_place (factor d 2) (rest_along l i 2) (k / 1 / factor d 1) ((2 * k + bit) / 4 % factor d 2) bits.1)
finer_face l m (suc zero) high side i k bit fit used few small at =
    let d : ℕ = l.dims in
    let x : List ℕ = finer_index (shaped l m) (across_index (shaped l m) 1 high 0 i) (child_by 1 bit k) in
    let bits = bits_of_second d k bit used fit.most few small in
    same_three _ _ _ (slice_index x 0) (slice_index x 1 + cond side 1 0) (slice_index x 2)
    (other_place (factor d 0) (rest_along l i 0) (k % factor d 0) ((k % 2 + 2 * bit + 4 * (k / 2)) % factor d 0) bits.0)
    (own_place_of (cells_along l 1) (slice_index x 1) 0 (k / factor d 0 % 1) side fit.cells2.least at refl (omega arith))
    (other_place (factor d 2) (rest_along l i 2) (k / factor d 0 / 1) ((k % 2 + 2 * bit + 4 * (k / 2)) / 4 % factor d 2) bits.1)
finer_face l m (suc (suc zero)) high side i k bit fit used few small at =
    let d : ℕ = l.dims in
    let x : List ℕ = finer_index (shaped l m) (across_index (shaped l m) 2 high 0 i) (child_by 2 bit k) in
    let bits = bits_of_third d k bit used fit.most few small in
    same_three _ _ _ (slice_index x 0) (slice_index x 1) (slice_index x 2 + cond side 1 0)
    (other_place (factor d 0) (rest_along l i 0) (k % factor d 0) ((k + 4 * bit) % factor d 0) bits.0)
    (other_place (factor d 1) (rest_along l i 1) (k / factor d 0 % factor d 1) ((k + 4 * bit) / 2 % factor d 1) bits.1)
    (own_place_of (cells_along l 2) (slice_index x 2) 0 (k / factor d 0 / factor d 1) side fit.cells3.least at refl (last_none d k (omega arith) fit.most few))
  where
    last_none : (d k : ℕ) → 2 < d → d ≤ 3 → k < count_of (face_factors d 2) → k / factor d 0 / factor d 1 ≡ 0
    last_none zero k h l m = absurd (omega arith)
    last_none (suc zero) k h l m = absurd (omega arith)
    last_none (suc (suc zero)) k h l m = absurd (omega arith)
    last_none (suc (suc (suc zero))) k h l m = omega arith
    last_none (suc (suc (suc (suc a)))) k h l m = absurd (omega arith)
finer_face l m (suc (suc (suc a))) high side i k bit fit used few small at = absurd (omega (arith, fit.most))
