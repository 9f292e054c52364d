-- The sums over shares.
use Rattle.std.proofs.Common.{◌≡◌, ℕ, zero, suc, ◌+◌, ◌*◌, ◌/◌, ◌%◌, ◌<◌, ◌≤◌, min, List, [], ◌∷◌, length, get_or, slice_index, nat_lt, if◌then◌else◌, sym, ◌∙◌, ap, arith}
use Rattle.std.proofs.lemmas.Bool.Decides.{nat_tests}
use Rattle.std.proofs.lemmas.List.FromFn.{fill_by_all, get_or-map-range_with_len}
use Rattle.std.proofs.Math.Nat.{mul-le-mul_left}
use Rattle.mesh_num.specs.Share.{share}
use Rattle.morton_order.specs.Space.{factor}
use Rattle.block_layout.specs.Indices.{IsWithin, count_of, index_of, number_of}
use Rattle.block_layout.proofs.Boxes.{first_digit, index_below, index_number, number_bound, number_index, other_digits, put_together, row_below}
use Rattle.mesh_rules.specs.Sums.{sum_to}
use Rattle.restrict_prolong.specs.Refined.{at_index, factors, part_index, part_number, prolonged, refined, restricted, share_in, sum_in}
use Rattle.restrict_prolong.proofs.SumSteps.{sum_same}
use Rattle.restrict_prolong.proofs.Halves.{factor_least}

-- the first shares add up to as many quotients, and one more each while the remainder lasts
first_shares : (q n m : ℕ) → sum_to m (share q n) ≡ m * (q / n) + min m (q % n)
first_shares q n zero = omega arith
first_shares q n (suc m) =
    let before : sum_to m (share q n) ≡ m * (q / n) + min m (q % n) = first_shares q n m in
    one_more (q / n) (q % n) m (sum_to m (share q n)) before
  where
    one_more : (d r m s : ℕ) → s ≡ m * d + min m r → s + (d + (if nat_lt m r then 1 else 0)) ≡ suc m * d + min (suc m) r
    one_more d r m s e = grind (arith, nat_tests)

-- the shares add up
pub all_shares : (q n : ℕ) → 1 ≤ n → sum_to n (share q n) ≡ q
all_shares q n some =
    let r : q % n < n = omega arith in
    let whole : q % n + n * (q / n) ≡ q = put_together q n in
    omega (arith, first_shares q n n, r, whole)

-- the j-th part of a coarse cell lies in it, and is the part j
part_coordinate : (f i a : ℕ) → a < f → (f * i + a) / f ≡ i
part_coordinate f i a h = ap (λ v. v / f) (omega arith) ∙ other_digits a i f h

part_digit : (f i a : ℕ) → a < f → (f * i + a) % f ≡ a
part_digit f i a h = ap (λ v. v % f) (omega arith) ∙ first_digit a i f h

pub share_of_part : (f coarse n i : List ℕ) (j : ℕ) → j < count_of f → share_in f (at_index n coarse) (part_index f i j) ≡ share (at_index n coarse i) (count_of f) j
share_of_part f coarse n i j h =
    let w = index_below f j h in
    let d = index_of f j in
    let c0 = part_coordinate (slice_index f 0) (slice_index i 0) (slice_index d 0) w.along1 in
    let c1 = part_coordinate (slice_index f 1) (slice_index i 1) (slice_index d 1) w.along2 in
    let c2 = part_coordinate (slice_index f 2) (slice_index i 2) (slice_index d 2) w.along3 in
    let p0 = part_digit (slice_index f 0) (slice_index i 0) (slice_index d 0) w.along1 in
    let p1 = part_digit (slice_index f 1) (slice_index i 1) (slice_index d 1) w.along2 in
    let p2 = part_digit (slice_index f 2) (slice_index i 2) (slice_index d 2) w.along3 in
    let place : ℕ → ℕ → ℕ → ℕ = λ x y z. x + slice_index n 0 * (y + slice_index n 1 * z) in
    let at : (x y z : ℕ) → x ≡ slice_index i 0 → y ≡ slice_index i 1 → z ≡ slice_index i 2 → place x y z ≡ number_of n i =
    λ x y z ex ey ez. ap (λ v. place v y z) ex ∙ ap (λ v. place (slice_index i 0) v z) ey ∙ ap (λ v. place (slice_index i 0) (slice_index i 1) v) ez in
    let digit : ℕ → ℕ → ℕ → ℕ = λ x y z. x + slice_index f 0 * (y + slice_index f 1 * z) in
    let part : part_number f (part_index f i j) ≡ j =
    ap (λ v. digit v (slice_index (part_index f i j) 1 % slice_index f 1) (slice_index (part_index f i j) 2 % slice_index f 2)) p0
    ∙ ap (λ v. digit (slice_index d 0) v (slice_index (part_index f i j) 2 % slice_index f 2)) p1
    ∙ ap (λ v. digit (slice_index d 0) (slice_index d 1) v) p2
    ∙ index_number f j in
    ap (λ v. share (slice_index coarse v) (count_of f) (part_number f (part_index f i j))) (at _ _ _ c0 c1 c2)
    ∙ ap (λ v. share (at_index n coarse i) (count_of f) v) part

-- each part lies in the fine box
pub part_within : (f n i : List ℕ) (j : ℕ) → j < count_of f → IsWithin n i → IsWithin (refined f n) (part_index f i j)
part_within f n i j h w =
    let d = index_below f j h in
    record {
      along1 = below (slice_index f 0) (slice_index n 0) (slice_index i 0) (slice_index (index_of f j) 0) d.along1 w.along1;
      along2 = below (slice_index f 1) (slice_index n 1) (slice_index i 1) (slice_index (index_of f j) 1) d.along2 w.along2;
      along3 = below (slice_index f 2) (slice_index n 2) (slice_index i 2) (slice_index (index_of f j) 2) d.along3 w.along3;
    }
  where
    below : (f n i a : ℕ) → a < f → i < n → f * i + a < f * n
    below f n i a ha hi = let r = row_below a i f n ha hi in omega arith

-- the number of a whole list of shares at an index
pub prolonged_at : (dims : ℕ) (n coarse p : List ℕ) → IsWithin (refined (factors dims) n) p → at_index (refined (factors dims) n) (prolonged dims n coarse) p ≡ share_in (factors dims) (at_index n coarse) p
prolonged_at dims n coarse p w =
    let e = refined (factors dims) n in
    let k = number_of e p in
    let same = number_index e p w in
    let f = factors dims in
    let given : ℕ → ℕ → ℕ → ℕ = λ x y z. share_in f (at_index n coarse) (x ∷ y ∷ z ∷ []) in
    get_or-map-range_with_len (λ k. share_in f (at_index n coarse) (index_of e k)) 0 (count_of e) k k 0 (number_bound e p w) (omega arith)
    ∙ ap (λ v. given v (slice_index (index_of e k) 1) (slice_index (index_of e k) 2)) same.along1
    ∙ ap (λ v. given (slice_index p 0) v (slice_index (index_of e k) 2)) same.along2
    ∙ ap (λ v. given (slice_index p 0) (slice_index p 1) v) same.along3

product_some : (a b c : ℕ) → 1 ≤ a → 1 ≤ b → 1 ≤ c → 1 ≤ a * b * c
product_some a b c ha hb hc =
    let ab : a * 1 ≤ a * b = mul-le-mul_left a hb in
    let abc : (a * b) * 1 ≤ (a * b) * c = mul-le-mul_left (a * b) hc in
    omega (arith, ab, abc)

-- a coarse cell is the sum over the shares in it
pub restored_at : (dims : ℕ) (n coarse i : List ℕ) → IsWithin n i → sum_in (factors dims) (at_index (refined (factors dims) n) (prolonged dims n coarse)) i ≡ at_index n coarse i
restored_at dims n coarse i w =
    let f = factors dims in
    let e = refined f n in
    sum_same (count_of f) (λ j. at_index e (prolonged dims n coarse) (part_index f i j)) (share (at_index n coarse i) (count_of f))
    (λ j h. prolonged_at dims n coarse (part_index f i j) (part_within f n i j h w) ∙ share_of_part f coarse n i j h)
    ∙ all_shares (at_index n coarse i) (count_of f) (product_some (factor dims 0) (factor dims 1) (factor dims 2) (factor_least dims 0) (factor_least dims 1) (factor_least dims 2))

pub shares_restored : (dims : ℕ) (n coarse : List ℕ) → 1 ≤ dims → dims ≤ 3 → length coarse ≡ count_of n → restricted dims n (prolonged dims n coarse) ≡ coarse
shares_restored dims n coarse least most len =
    sym (fill_by_all (λ k. sum_in (factors dims) (at_index (refined (factors dims) n) (prolonged dims n coarse)) (index_of n k)) coarse (count_of n) 0 len
    (λ k h. ap (λ v. get_or coarse v 0) (sym (index_number n k)) ∙ sym (restored_at dims n coarse (index_of n k) (index_below n k h))))
