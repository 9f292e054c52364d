-- Whole lists as boxes.
use Rattle.std.proofs.Common.{◌≡◌, ℕ, ◌+◌, ◌*◌, ◌<◌, ◌≤◌, ◌^◌, List, [], ◌∷◌, length, get_or, slice_index, sym, ◌∙◌, ap, subst, arith}
use Rattle.std.proofs.lemmas.List.FromFn.{fill_by_all}
use Rattle.mesh_rules.specs.Sums.{table}
use Rattle.mesh_num.specs.Share.{share}
use Rattle.block_layout.specs.Indices.{IsWithin, count_of, index_of, number_of}
use Rattle.block_layout.proofs.Boxes.{index_below, index_number, number_bound, positive}
use Rattle.std.proofs.Math.Nat.{mul-le-mul_left}
use Rattle.cell_boxes.specs.declared.boxes.BoxIn.{BoxIn}
use Rattle.cell_boxes.specs.Boxes.{HasCells, IsBoxIn, address}
use Rattle.block_regions.specs.Rows.{whole_box}
use Rattle.restrict_prolong.specs.Boxes.{HasShares, HasSums, at_box}
use Rattle.restrict_prolong.specs.Refined.{at_index, coarsened, factors, part_index, part_number, prolonged, refined, restricted, share_in, sum_in}
use Rattle.restrict_prolong.proofs.SumSteps.{sum_same}

pub whole_address : (e i : List ℕ) → address (whole_box e) i ≡ number_of e i
whole_address e i = at_corner (slice_index i 0) (slice_index i 1) (slice_index i 2) (slice_index e 0) (slice_index e 1)
  where
    at_corner : (x y z n m : ℕ) → 0 + (0 + x + n * (0 + y + m * (0 + z))) ≡ x + n * (y + m * z)
    at_corner x y z n m = omega arith

-- a list that has what each index of its box gives
pub from_whole : (e : List ℕ) (each : List ℕ → ℕ) (new : List ℕ) → length new ≡ count_of e → ((i : List ℕ) → IsWithin e i → at_box new (whole_box e) i ≡ each i) → new ≡ table (count_of e) (λ k. each (index_of e k))
from_whole e each new len has =
    fill_by_all (λ k. each (index_of e k)) new (count_of e) 0 len
    (λ k h. ap (λ v. get_or new v 0) (sym (whole_address e (index_of e k) ∙ index_number e k)) ∙ has (index_of e k) (index_below e k h))

-- sums of a whole list
pub whole_sum : (f e fine i : List ℕ) → sum_in f (at_box fine (whole_box e)) i ≡ sum_in f (at_index e fine) i
whole_sum f e fine i =
    sum_same (count_of f) (λ j. at_box fine (whole_box e) (part_index f i j)) (λ j. at_index e fine (part_index f i j)) (λ j h. ap (slice_index fine) (whole_address e (part_index f i j)))

pub whole_share : (f e coarse p : List ℕ) → share_in f (at_box coarse (whole_box e)) p ≡ share_in f (at_index e coarse) p
whole_share f e coarse p = ap (λ v. share (slice_index coarse v) (count_of f) (part_number f p)) (whole_address e (coarsened f p))

pub whole_restricted : (dims : ℕ) (n fine new : List ℕ) → length new ≡ count_of n → HasSums (factors dims) n fine (whole_box (refined (factors dims) n)) new (whole_box n) → new ≡ restricted dims n fine
whole_restricted dims n fine new len has =
    fill_by_all (λ k. sum_in (factors dims) (at_index (refined (factors dims) n) fine) (index_of n k)) new (count_of n) 0 len
    (λ k h. ap (λ v. get_or new v 0) (sym (whole_address n (index_of n k) ∙ index_number n k)) ∙ has (index_of n k) (index_below n k h) ∙ whole_sum (factors dims) (refined (factors dims) n) fine (index_of n k))

pub whole_prolonged : (dims : ℕ) (n coarse new : List ℕ) → length new ≡ count_of (refined (factors dims) n) → HasShares dims (refined (factors dims) n) coarse (whole_box n) new (whole_box (refined (factors dims) n)) → new ≡ prolonged dims n coarse
whole_prolonged dims n coarse new len has =
    let e = refined (factors dims) n in
    fill_by_all (λ k. share_in (factors dims) (at_index n coarse) (index_of e k)) new (count_of e) 0 len
    (λ k h. ap (λ v. get_or new v 0) (sym (whole_address e (index_of e k) ∙ index_number e k)) ∙ has (index_of e k) (index_below e k h) ∙ whole_share (factors dims) n coarse (index_of e k))

-- a whole list is a box in itself
pub whole_in_itself : (e : List ℕ) (n : ℕ) → n ≡ count_of e → IsBoxIn e (whole_box e) n
whole_in_itself e n is = record { along1 = omega arith; along2 = omega arith; along3 = omega arith; within = omega (arith, is) }

-- a box with cells has some along each axis
pub some_cells : (e : List ℕ) → 1 ≤ count_of e → HasCells e
some_cells e some = let r = by (slice_index e 0) (slice_index e 1) (slice_index e 2) some in record { along1 = r.along1; along2 = r.along2; along3 = r.along3 }
  where
    along : (a b c : ℕ) → 1 ≤ a * b * c → 1 ≤ a
    along a b c h = let p : 0 < a = positive a (b * c) 0 (omega arith) in omega (arith, p)

    by : (a b c : ℕ) → 1 ≤ a * b * c → HasCells (a ∷ b ∷ c ∷ [])
    by a b c h = record { along1 = along a b c h; along2 = along b a c (omega arith); along3 = along c a b (omega arith) }

-- one without has no index
pub none_within : (e i : List ℕ) → count_of e ≡ 0 → IsWithin e i → ⊥
none_within e i none w = omega (arith, number_bound e i w, none)

-- cells are cells on the fine level too
pub refined_cells : (f e : List ℕ) → 1 ≤ slice_index f 0 → 1 ≤ slice_index f 1 → 1 ≤ slice_index f 2 → HasCells e → HasCells (refined f e)
refined_cells f e a b c cells =
    record { along1 = product (slice_index f 0) (slice_index e 0) a cells.along1; along2 = product (slice_index f 1) (slice_index e 1) b cells.along2; along3 = product (slice_index f 2) (slice_index e 2) c cells.along3 }
  where
    product : (f n : ℕ) → 1 ≤ f → 1 ≤ n → 1 ≤ f * n
    product f n a b = let r : f * 1 ≤ f * n = mul-le-mul_left f b in omega (arith, r, a)

-- the three numbers of a list
abbrev pub three : List ℕ → List ℕ
three n = slice_index n 0 ∷ slice_index n 1 ∷ slice_index n 2 ∷ []

within_three : (n i : List ℕ) → IsWithin n i → IsWithin (three n) i
within_three n i w = record { along1 = w.along1; along2 = w.along2; along3 = w.along3 }

within_list : (n i : List ℕ) → IsWithin (three n) i → IsWithin n i
within_list n i w = record { along1 = w.along1; along2 = w.along2; along3 = w.along3 }

pub small_sums : (dims : ℕ) (n fine each : List ℕ) (a : BoxIn) → each ≡ factors dims → a ≡ whole_box (refined (factors dims) n)
    → ((i : List ℕ) → IsWithin n i → sum_in (factors dims) (at_index (refined (factors dims) n) fine) i < 2 ^ 64)
    → (i : List ℕ) → IsWithin (three n) i → sum_in each (at_box fine a) i < 2 ^ 64
small_sums dims n fine each a p q small i w =
    subst (λ (e : List ℕ). sum_in e (at_box fine a) i < 2 ^ 64) (sym p)
    (subst (λ (b : BoxIn). sum_in (factors dims) (at_box fine b) i < 2 ^ 64) (sym q)
    (subst (λ (v : ℕ). v < 2 ^ 64) (sym (whole_sum (factors dims) (refined (factors dims) n) fine i)) (small i (within_list n i w))))

pub restricted_by : (dims : ℕ) (n fine new each : List ℕ) (a b : BoxIn) → each ≡ factors dims → a ≡ whole_box (refined (factors dims) n) → b ≡ whole_box (three n) → length new ≡ count_of n
    → HasSums each (three n) fine a new b → new ≡ restricted dims n fine
restricted_by dims n fine new each a b p q r len has =
    whole_restricted dims n fine new len
    (λ i w. ap (λ (v : BoxIn). at_box new v i) (sym r) ∙ has i (within_three n i w) ∙ ap (λ (e : List ℕ). sum_in e (at_box fine a) i) p ∙ ap (λ (v : BoxIn). sum_in (factors dims) (at_box fine v) i) q)

pub prolonged_by : (dims : ℕ) (n coarse new : List ℕ) (a b : BoxIn) → a ≡ whole_box (three n) → b ≡ whole_box (refined (factors dims) n) → length new ≡ count_of (refined (factors dims) n)
    → HasShares dims (refined (factors dims) n) coarse a new b → new ≡ prolonged dims n coarse
prolonged_by dims n coarse new a b q r len has =
    whole_prolonged dims n coarse new len
    (λ i w. ap (λ (v : BoxIn). at_box new v i) (sym r) ∙ has i w ∙ ap (λ (v : BoxIn). share_in (factors dims) (at_box coarse v) i) q)
