-- Coarse rows as sums of fine ones.
use Rattle.std.proofs.Common.{◌≡◌, ℕ, ◌+◌, ◌*◌, ◌<◌, ◌≤◌, ◌^◌, List, [], ◌∷◌, take, drop, length, get_or, slice_index, sym, ◌∙◌, ap, arith}
use Rattle.std.proofs.Math.Nat.{mul-le-mul_left}
use Rattle.std.proofs.lemmas.List.{get_or-take, get_or-drop}
use Rattle.mesh_rules.specs.Sums.{sum_to}
use Rattle.block_layout.specs.Indices.{IsWithin}
use Rattle.block_layout.proofs.Boxes.{row_below}
use Rattle.cell_boxes.specs.declared.boxes.BoxIn.{BoxIn}
use Rattle.cell_boxes.specs.Boxes.{HasCells}
use Rattle.block_regions.specs.Rows.{IsRowOf, row_start}
use Rattle.restrict_prolong.specs.declared.sums.Sums.{Sums}
use Rattle.restrict_prolong.specs.Boxes.{at_box}
use Rattle.restrict_prolong.specs.Refined.{sum_in}
use Rattle.restrict_prolong.specs.Rows.{AddsRow, AreSums, IsSumRow, PlaneBelow, RowBelow, row_sum, sum_along1, sum_along2, sum_along3}
use Rattle.restrict_prolong.proofs.SumSteps.{axis_by_axis, sum_more, sum_next, sum_same}

-- a number of a fine row by its index in the box
pub cell_of_row : (b : BoxIn) (from : List ℕ) (at j k y z : ℕ) → k < j → at ≡ row_start b y z → get_or (take j (drop at from)) k 0 ≡ at_box from b (k ∷ y ∷ z ∷ [])
cell_of_row b from at j k y z h starts =
    get_or-take j (drop at from) k 0 h ∙ get_or-drop at from k 0 ∙ ap (λ v. get_or from v 0) (omega (arith, starts))

-- the sum in a fine row
pub sum_of_row : (f0 n : ℕ) (b : BoxIn) (from : List ℕ) (at j x y z : ℕ) → x < n → j ≡ f0 * n → at ≡ row_start b y z
    → row_sum f0 (take j (drop at from)) x ≡ sum_to f0 (λ a. at_box from b ((f0 * x + a) ∷ y ∷ z ∷ []))
sum_of_row f0 n b from at j x y z h long starts =
    sum_same f0 (λ a. slice_index (take j (drop at from)) (f0 * x + a)) (λ a. at_box from b ((f0 * x + a) ∷ y ∷ z ∷ []))
    (λ a l. let r = row_below a x f0 n l h in cell_of_row b from at j (f0 * x + a) y z (omega (arith, r, long)) starts)

-- the fine cells are cells
pub fine_cells : (s : Sums) (from : List ℕ) (n : ℕ) → AreSums s from n → HasCells s.fine
fine_cells s from n is =
    record {
      along1 = omega (arith, ap (λ v. slice_index v 0) is.fine, product (slice_index s.factors 0) (slice_index s.extents 0) is.factors.least1 is.cells.along1);
      along2 = omega (arith, ap (λ v. slice_index v 1) is.fine, product (slice_index s.factors 1) (slice_index s.extents 1) is.factors.least2 is.cells.along2);
      along3 = omega (arith, ap (λ v. slice_index v 2) is.fine, product (slice_index s.factors 2) (slice_index s.extents 2) is.factors.least3 is.cells.along3);
    }
  where
    product : (f n : ℕ) → 1 ≤ f → 1 ≤ n → 1 ≤ f * n
    product f n a b = let r : f * 1 ≤ f * n = mul-le-mul_left f b in omega (arith, r, a)

-- a fine row in a coarse one is a row of the fine box
pub fine_row : (s : Sums) (from : List ℕ) (n row b y z : ℕ) → AreSums s from n → row < slice_index s.extents 1 → z < slice_index s.fine 2 → b < slice_index s.factors 1 → y ≡ slice_index s.factors 1 * row + b → IsRowOf s.fine y z
fine_row s from n row b y z is h k l e =
    record { row_in = omega (arith, row_below b row (slice_index s.factors 1) (slice_index s.extents 1) l h, ap (λ v. slice_index v 1) is.fine, e); plane_in = k }

pub fine_plane : (s : Sums) (from : List ℕ) (n plane c : ℕ) → AreSums s from n → plane < slice_index s.extents 2 → c < slice_index s.factors 2 → slice_index s.factors 2 * plane + c < slice_index s.fine 2
fine_plane s from n plane c is h l =
    omega (arith, row_below c plane (slice_index s.factors 2) (slice_index s.extents 2) l h, ap (λ v. slice_index v 2) is.fine)

-- what a row adds is the sum along x1
pub added_along1 : (s : Sums) (from : List ℕ) (n at j x y z : ℕ) → AreSums s from n → x < n → j ≡ slice_index s.fine 0 → at ≡ row_start s.from_box y z
    → row_sum (slice_index s.factors 0) (take j (drop at from)) x ≡ sum_along1 s from x y z
added_along1 s from n at j x y z is h long starts =
    sum_of_row (slice_index s.factors 0) n s.from_box from at j x y z h
    (long ∙ ap (λ v. slice_index v 0) is.fine ∙ ap (λ v. slice_index s.factors 0 * v) (sym is.whole)) starts

-- one more fine row of a plane
pub one_more_fine_row : (s : Sums) (from : List ℕ) (n row z b at j : ℕ) (old into new : List ℕ) → AreSums s from n → length old ≡ n → length into ≡ n → j ≡ slice_index s.fine 0 → at ≡ row_start s.from_box (slice_index s.factors 1 * row + b) z
    → ((x : ℕ) → x < length old → get_or into x 0 ≡ get_or old x 0 + sum_to b (λ b. sum_along1 s from x (slice_index s.factors 1 * row + b) z))
    → AddsRow (slice_index s.factors 0) (take j (drop at from)) into new
    → (x : ℕ) → x < length old → get_or new x 0 ≡ get_or old x 0 + sum_to (b + 1) (λ b. sum_along1 s from x (slice_index s.factors 1 * row + b) z)
one_more_fine_row s from n row z b at j old into new is len_old len_into long starts known adds x h =
    let g : ℕ → ℕ = λ b. sum_along1 s from x (slice_index s.factors 1 * row + b) z in
    let here = added_along1 s from n at j x (slice_index s.factors 1 * row + b) z is (omega arith) long starts in
    omega (arith, adds x (omega arith), known x h, sum_more b g, here)

pub fine_row_below : (s : Sums) (from : List ℕ) (n row z b at j : ℕ) (old into : List ℕ) → AreSums s from n → length old ≡ n → length into ≡ n → j ≡ slice_index s.fine 0 → b < slice_index s.factors 1 → at ≡ row_start s.from_box (slice_index s.factors 1 * row + b) z
    → ((x : ℕ) → x < length old → get_or into x 0 ≡ get_or old x 0 + sum_to b (λ b. sum_along1 s from x (slice_index s.factors 1 * row + b) z))
    → PlaneBelow (2 ^ 64) s from row z old → RowBelow (2 ^ 64) (slice_index s.factors 0) (take j (drop at from)) into
fine_row_below s from n row z b at j old into is len_old len_into long less starts known small x h =
    let g : ℕ → ℕ = λ b. sum_along1 s from x (slice_index s.factors 1 * row + b) z in
    let l : x < length old = omega arith in
    let here = added_along1 s from n at j x (slice_index s.factors 1 * row + b) z is (omega arith) long starts in
    omega (arith, known x l, small x l, sum_next b (slice_index s.factors 1) g less, here)

-- one more fine plane of a coarse row
pub one_more_fine_plane : (s : Sums) (from : List ℕ) (n row plane c : ℕ) (into new : List ℕ) → length into ≡ n
    → ((x : ℕ) → x < n → get_or into x 0 ≡ sum_to c (λ c. sum_along2 s from x row (slice_index s.factors 2 * plane + c)))
    → ((x : ℕ) → x < length into → get_or new x 0 ≡ get_or into x 0 + sum_along2 s from x row (slice_index s.factors 2 * plane + c))
    → (x : ℕ) → x < n → get_or new x 0 ≡ sum_to (c + 1) (λ c. sum_along2 s from x row (slice_index s.factors 2 * plane + c))
one_more_fine_plane s from n row plane c into new len known adds x h =
    omega (arith, adds x (omega arith), known x h, sum_more c (λ c. sum_along2 s from x row (slice_index s.factors 2 * plane + c)))

-- the sum axis by axis is the sum over the parts
pub axes_of : (s : Sums) (from : List ℕ) (n x row plane : ℕ) → AreSums s from n → sum_in s.factors (at_box from s.from_box) (x ∷ row ∷ plane ∷ []) ≡ sum_along3 s from x row plane
axes_of s from n x row plane is =
    axis_by_axis (slice_index s.factors 0) (slice_index s.factors 1) (slice_index s.factors 2)
    (λ a b c. at_box from s.from_box ((slice_index s.factors 0 * x + a) ∷ (slice_index s.factors 1 * row + b) ∷ (slice_index s.factors 2 * plane + c) ∷ []))
    is.factors.least1 is.factors.most1 is.factors.least2 is.factors.most2 is.factors.least3 is.factors.most3

pub fine_plane_below : (s : Sums) (from : List ℕ) (n row plane c : ℕ) (into : List ℕ) → IsSumRow s from n row plane → length into ≡ n → c < slice_index s.factors 2
    → ((x : ℕ) → x < n → get_or into x 0 ≡ sum_to c (λ c. sum_along2 s from x row (slice_index s.factors 2 * plane + c)))
    → PlaneBelow (2 ^ 64) s from row (slice_index s.factors 2 * plane + c) into
fine_plane_below s from n row plane c into is len less known x h =
    let l : x < n = omega arith in
    let w : IsWithin s.extents (x ∷ row ∷ plane ∷ []) = record { along1 = omega (arith, is.sums.whole); along2 = is.lies_in.row_in; along3 = is.lies_in.plane_in } in
    omega (arith, known x l, is.small (x ∷ row ∷ plane ∷ []) w, axes_of s from n x row plane is.sums, sum_next c (slice_index s.factors 2) (λ c. sum_along2 s from x row (slice_index s.factors 2 * plane + c)) less)

-- a coarse row whose fine planes are all added
pub planes_added : (s : Sums) (from : List ℕ) (n row plane p x : ℕ) (into : List ℕ) → AreSums s from n → p ≡ slice_index s.factors 2
    → get_or into x 0 ≡ sum_to p (λ c. sum_along2 s from x row (slice_index s.factors 2 * plane + c)) → get_or into x 0 ≡ sum_in s.factors (at_box from s.from_box) (x ∷ row ∷ plane ∷ [])
planes_added s from n row plane p x into is end known =
    known ∙ ap (λ (m : ℕ). sum_to m (λ c. sum_along2 s from x row (slice_index s.factors 2 * plane + c))) end ∙ sym (axes_of s from n x row plane is)
