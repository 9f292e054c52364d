-- The children of a block cover cells that lie apart.
use Rattle.std.proofs.Common.{◌≡◌, ℕ, zero, suc, ◌+◌, ◌*◌, ◌/◌, ◌%◌, ◌^◌, ◌<◌, ◌≤◌, Option, Some, None, List, [], ◌∷◌, length, slice_index, arith, ap, subst, sym, ◌∙◌, inl, inr}
use Rattle.std.proofs.Math.Nat.{mul-le-mul_right}
use Rattle.std.proofs.lemmas.Bool.{cases_eq}
use Rattle.std.proofs.lemmas.Nat.{div-mul-add}
use Rattle.morton_order.specs.declared.space.Loc.{Loc}
use Rattle.morton_order.specs.Space.{child_number, factor, parts}
use Rattle.block_layout.specs.declared.layout.Layout.{Layout}
use Rattle.block_layout.specs.Indices.{IsWithin, added, index_of, number_of}
use Rattle.block_layout.specs.Layouts.{interior_len}
use Rattle.block_layout.proofs.Boxes.{mod_below, number_index}
use Rattle.block_regions.specs.Rows.{whole_box}
use Rattle.cell_boxes.specs.Boxes.{StaysOffBox, address}
use Rattle.restrict_prolong.specs.Refined.{factors, sum_in}
use Rattle.restrict_prolong.specs.Boxes.{HasSums, SumsBelow, at_box}
use Rattle.restrict_prolong.proofs.Halves.{factor_least, half_twice}
use Rattle.dense_remesh.specs.StartBoxes.{cell_of}
use Rattle.dense_remesh.specs.Parts.{HasChildSums, IsChildList, child_list, half_along, half_cells, list_of, part_box, part_low}

-- a child's number by its halves
pub digits_of : (dims j : ℕ) → 1 ≤ dims → dims ≤ 3 → j < parts dims → j ≡ j % factor dims 0 + 2 * (j / 2 % factor dims 1) + 4 * (j / 4 % factor dims 2)
digits_of zero j a b h = absurd (omega arith)
digits_of (suc zero) j a b h = omega arith
digits_of (suc (suc zero)) j a b h = omega arith
digits_of (suc (suc (suc zero))) j a b h = omega arith
digits_of (suc (suc (suc (suc d)))) j a b h = absurd (omega arith)

-- a cell of a child, along one axis
in_part : (f h n d i : ℕ) → f * h ≡ n → d < f → i < h → d * h + i < n
in_part f h n d i whole low small = let next : d + 1 ≤ f = omega arith in let most : (d + 1) * h ≤ f * h = mul-le-mul_right h next in omega arith

digit_below : (dims axis x : ℕ) → x % factor dims axis < factor dims axis
digit_below dims axis x = mod_below x (factor dims axis) (factor_least dims axis)

pub part_within : (l : Layout) (j : ℕ) (i : List ℕ) → IsWithin (half_cells l) i → IsWithin l.cells (added (part_low l j) i)
part_within l j i w = record {
  along1 = in_part (factor l.dims 0) (half_along l 0) (slice_index l.cells 0) (j % factor l.dims 0) (slice_index i 0) (half_twice l.dims 0 (slice_index l.cells 0) l.sound.cells1) (digit_below l.dims 0 j) w.along1;
  along2 = in_part (factor l.dims 1) (half_along l 1) (slice_index l.cells 1) (j / 2 % factor l.dims 1) (slice_index i 1) (half_twice l.dims 1 (slice_index l.cells 1) l.sound.cells2) (digit_below l.dims 1 (j / 2)) w.along2;
  along3 = in_part (factor l.dims 2) (half_along l 2) (slice_index l.cells 2) (j / 4 % factor l.dims 2) (slice_index i 2) (half_twice l.dims 2 (slice_index l.cells 2) l.sound.cells3) (digit_below l.dims 2 (j / 4)) w.along3;
}

-- a place in the box of a child
pub part_place : (l : Layout) (j : ℕ) (i : List ℕ) → address (part_box l j) i ≡ number_of l.cells (added (part_low l j) i)
part_place l j i = nothing_before (number_of l.cells (added (part_low l j) i))
  where
    nothing_before : (n : ℕ) → 0 + n ≡ n
    nothing_before n = omega arith

same_digit : (h d e i q : ℕ) → i < h → q < h → d * h + i ≡ e * h + q → d ≡ e
same_digit h d e i q a b same = sym (div-mul-add d h i a) ∙ ap (λ v. v / h) same ∙ div-mul-add e h q b

together : (a b c x y z : ℕ) → a ≡ x → b ≡ y → c ≡ z → a + 2 * b + 4 * c ≡ x + 2 * y + 4 * z
together a b c x y z e f g = omega arith

-- cells of two children stand in two places
pub parts_apart : (l : Layout) (j k : ℕ) (i q : List ℕ) → j < parts l.dims → k < parts l.dims → IsWithin (half_cells l) i → IsWithin (half_cells l) q → address (part_box l j) i ≡ address (part_box l k) q → j ≡ k
parts_apart l j k i q few less w v same =
    let a : List ℕ = added (part_low l j) i in
    let b : List ℕ = added (part_low l k) q in
    let number : number_of l.cells a ≡ number_of l.cells b = sym (part_place l j i) ∙ same ∙ part_place l k q in
    let x = number_index l.cells a (part_within l j i w) in
    let y = number_index l.cells b (part_within l k q v) in
    let one : slice_index a 0 ≡ slice_index b 0 = sym x.along1 ∙ ap (λ n. slice_index (index_of l.cells n) 0) number ∙ y.along1 in
    let two : slice_index a 1 ≡ slice_index b 1 = sym x.along2 ∙ ap (λ n. slice_index (index_of l.cells n) 1) number ∙ y.along2 in
    let three : slice_index a 2 ≡ slice_index b 2 = sym x.along3 ∙ ap (λ n. slice_index (index_of l.cells n) 2) number ∙ y.along3 in
    digits_of l.dims j l.sound.least l.sound.most few
    ∙ together (j % factor l.dims 0) (j / 2 % factor l.dims 1) (j / 4 % factor l.dims 2) (k % factor l.dims 0) (k / 2 % factor l.dims 1) (k / 4 % factor l.dims 2)
    (same_digit (half_along l 0) (j % factor l.dims 0) (k % factor l.dims 0) (slice_index i 0) (slice_index q 0) w.along1 v.along1 one)
    (same_digit (half_along l 1) (j / 2 % factor l.dims 1) (k / 2 % factor l.dims 1) (slice_index i 1) (slice_index q 1) w.along2 v.along2 two)
    (same_digit (half_along l 2) (j / 4 % factor l.dims 2) (k / 4 % factor l.dims 2) (slice_index i 2) (slice_index q 2) w.along3 v.along3 three)
    ∙ sym (digits_of l.dims k l.sound.least l.sound.most less)

-- the list of a child is that of a leaf
pub record IsWhole (l : Layout) (field : List (List ℕ)) (leaf : Option ℕ) : Type 0 where
  pub there : (x : ℕ) → leaf ≡ Some x → x < length field
  pub size : length (list_of field leaf) ≡ interior_len l
  pub small : SumsBelow (2 ^ 62) (factors l.dims) (half_cells l) (list_of field leaf) (whole_box l.cells)

pub is_whole : (l : Layout) (field : List (List ℕ)) (leaf : Option ℕ) → IsChildList l field leaf → IsWhole l field leaf
is_whole l field None h = absurd h
is_whole l field (Some leaf) h = record { there = λ x e. subst (λ v. v < length field) (same_leaf leaf x e) h.0.there; size = h.0.size; small = h.1 }
  where
    same_leaf : (a b : ℕ) → Some a ≡ Some b → a ≡ b
    same_leaf a b e = cc

-- the sums of one child more
pub sums_step : (l : Layout) (field : List (List ℕ)) (numbers : List (Option ℕ)) (j : ℕ) (fine old new : List ℕ) → j < parts l.dims → fine ≡ child_list field numbers j →
    HasSums (factors l.dims) (half_cells l) fine (whole_box l.cells) new (part_box l j) → StaysOffBox (half_cells l) (part_box l j) old new → HasChildSums l field numbers j old → HasChildSums l field numbers (j + 1) new
sums_step l field numbers j fine old new few is has stays before = λ k less i w. elim (cases_eq k j) [
  | inl e ↦
      subst (λ n. at_box new (part_box l n) i ≡ sum_in (factors l.dims) (at_box (child_list field numbers n) (whole_box l.cells)) i) (sym e)
      (has i w ∙ ap (λ (v : List ℕ). sum_in (factors l.dims) (at_box v (whole_box l.cells)) i) is)
  | inr other ↦
      let low : k < j = omega arith in
      stays (address (part_box l k) i) (λ q v same. other (parts_apart l k j i q (omega arith) few w v same)) ∙ before k low i w
]

-- a block's number by its coordinates
pub number_by : (dims : ℕ) (l : Loc) (x y z : ℕ) → x ≡ l.l1 → y ≡ l.l2 → z ≡ l.l3 → child_number dims (cell_of 0 (x ∷ y ∷ z ∷ [])) ≡ child_number dims l
number_by dims l x y z a b c =
    together (x % factor dims 0) (y % factor dims 1) (z % factor dims 2) (l.l1 % factor dims 0) (l.l2 % factor dims 1) (l.l3 % factor dims 2)
    (ap (λ v. v % factor dims 0) a) (ap (λ v. v % factor dims 1) b) (ap (λ v. v % factor dims 2) c)
