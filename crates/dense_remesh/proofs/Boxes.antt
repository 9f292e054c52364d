-- Where the children of a block lie in its list.
use Rattle.std.proofs.Common.{◌^◌, ◌≡◌, ℕ, ◌+◌, ◌*◌, ◌<◌, List, slice_index, ap, subst, sym, ◌∙◌}
use Rattle.block_layout.specs.declared.layout.Layout.{Layout}
use Rattle.block_layout.specs.Indices.{IsWithin, count_of}
use Rattle.cell_boxes.specs.declared.boxes.BoxIn.{BoxIn}
use Rattle.cell_boxes.specs.Boxes.{address}
use Rattle.block_regions.specs.Rows.{whole_box}
use Rattle.restrict_prolong.specs.Refined.{factors, part_index, refined, share_in, sum_in}
use Rattle.restrict_prolong.specs.Boxes.{HasShares, HasSums, SumsBelow, at_box}
use Rattle.restrict_prolong.proofs.Halves.{half_twice}
use Rattle.restrict_prolong.proofs.SumSteps.{sum_same}
use Rattle.restrict_prolong.proofs.Wholes.{whole_address}
use Rattle.dense_remesh.specs.Parts.{HasParentShares, half_cells, part_box}

-- the cells along each axis, by three numbers
pub record AreCells (l : Layout) (e : List ℕ) : Type 0 where
  pub first : slice_index e 0 ≡ slice_index l.cells 0
  pub second : slice_index e 1 ≡ slice_index l.cells 1
  pub third : slice_index e 2 ≡ slice_index l.cells 2

same_number : (x y z a b c d : ℕ) → a ≡ c → b ≡ d → x + a * (y + b * z) ≡ x + c * (y + d * z)
same_number x y z a b c d e f = ap (λ v. x + v * (y + b * z)) e ∙ ap (λ v. x + c * (y + v * z)) f

-- a place in a whole list
pub whole_place : (l : Layout) (e i : List ℕ) → AreCells l e → address (whole_box l.cells) i ≡ address (whole_box e) i
whole_place l e i are =
    whole_address l.cells i
    ∙ same_number (slice_index i 0) (slice_index i 1) (slice_index i 2) (slice_index l.cells 0) (slice_index l.cells 1) (slice_index e 0) (slice_index e 1) (sym are.first) (sym are.second)
    ∙ sym (whole_address e i)

-- an index of a block on the level of its child
pub within_refined : (l : Layout) (p : List ℕ) → IsWithin l.cells p → IsWithin (refined (factors l.dims) (half_cells l)) p
within_refined l p w = record {
  along1 = subst (λ v. slice_index p 0 < v) (sym (half_twice l.dims 0 (slice_index l.cells 0) l.sound.cells1)) w.along1;
  along2 = subst (λ v. slice_index p 1 < v) (sym (half_twice l.dims 1 (slice_index l.cells 1) l.sound.cells2)) w.along2;
  along3 = subst (λ v. slice_index p 2 < v) (sym (half_twice l.dims 2 (slice_index l.cells 2) l.sound.cells3)) w.along3;
}

-- shares that were written box by box
pub shares_written : (l : Layout) (j : ℕ) (coarse new half e : List ℕ) (from into : BoxIn) → half ≡ half_cells l → from ≡ part_box l j → into ≡ whole_box e → AreCells l e →
    HasShares l.dims (refined (factors l.dims) half) coarse from new into → HasParentShares l coarse j new
shares_written l j coarse new half e from into is p q are has = λ i w.
    ap (slice_index new) (whole_place l e i are)
    ∙ ap (λ (b : BoxIn). at_box new b i) (sym q)
    ∙ has i (subst (λ (v : List ℕ). IsWithin (refined (factors l.dims) v) i) (sym is) (within_refined l i w))
    ∙ ap (λ (b : BoxIn). share_in (factors l.dims) (at_box coarse b) i) p

-- the same sums, by three numbers
pub sum_by_cells : (l : Layout) (e fine i f : List ℕ) → AreCells l e → sum_in f (at_box fine (whole_box l.cells)) i ≡ sum_in f (at_box fine (whole_box e)) i
sum_by_cells l e fine i f are = sum_same (count_of f) (λ k. at_box fine (whole_box l.cells) (part_index f i k)) (λ k. at_box fine (whole_box e) (part_index f i k)) (λ k small. ap (slice_index fine) (whole_place l e (part_index f i k) are))

pub sums_written : (l : Layout) (j : ℕ) (fine new half e each : List ℕ) (from into : BoxIn) → half ≡ half_cells l → each ≡ factors l.dims → from ≡ whole_box e → into ≡ part_box l j → AreCells l e →
    HasSums each half fine from new into → HasSums (factors l.dims) (half_cells l) fine (whole_box l.cells) new (part_box l j)
sums_written l j fine new half e each from into is f p q are has = λ i w.
    ap (λ (b : BoxIn). at_box new b i) (sym q)
    ∙ has i (subst (λ (v : List ℕ). IsWithin v i) (sym is) w)
    ∙ ap (λ (v : List ℕ). sum_in v (at_box fine from) i) f
    ∙ ap (λ (b : BoxIn). sum_in (factors l.dims) (at_box fine b) i) p
    ∙ sym (sum_by_cells l e fine i (factors l.dims) are)

pub sums_small : (l : Layout) (fine half e each : List ℕ) (from : BoxIn) → half ≡ half_cells l → each ≡ factors l.dims → from ≡ whole_box e → AreCells l e →
    SumsBelow (2 ^ 62) (factors l.dims) (half_cells l) fine (whole_box l.cells) → SumsBelow (2 ^ 62) each half fine from
sums_small l fine half e each from is f p are small = λ i w.
    subst (λ v. v < 2 ^ 62)
    (sum_by_cells l e fine i (factors l.dims) are ∙ ap (λ (b : BoxIn). sum_in (factors l.dims) (at_box fine b) i) (sym p) ∙ ap (λ (v : List ℕ). sum_in v (at_box fine from) i) (sym f))
    (small i (subst (λ (v : List ℕ). IsWithin v i) is w))
