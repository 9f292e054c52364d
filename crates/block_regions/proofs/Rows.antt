-- A box that is written row by row, as a box that is written from a list which has what each of its indices gives.
use Rattle.std.proofs.Common.{◌≡◌, ◌≢◌, ℕ, ◌+◌, ◌*◌, ◌/◌, ◌%◌, ◌<◌, ◌≤◌, List, [], ◌∷◌, map, take, drop, length, get_or, slice_index, sym, ◌∙◌, ap, refl, arith}
use Rattle.std.specs.List.{range_with_len}
use Rattle.std.proofs.lemmas.Grind.{common_steps}
use Rattle.std.proofs.lemmas.List.{ext_get_or, get_or-map, get_or-take, get_or-drop}
use Rattle.std.proofs.lemmas.List.FromFn.{length-map-range_with_len, get_or-map-range_with_len}
use Rattle.std.proofs.Math.Nat.{mul-le-mul_left}
use Rattle.block_layout.specs.Indices.{IsWithin, count_of}
use Rattle.block_layout.proofs.Boxes.{first_digit, number_below, other_digits}
use Rattle.cell_boxes.specs.declared.boxes.BoxIn.{BoxIn}
use Rattle.cell_boxes.specs.Boxes.{HasCells, IsBoxIn, address}
use Rattle.cell_boxes.specs.Planes.{planes_of}
use Rattle.cell_boxes.proofs.Rows.{address_is, box-inside, box-outside}
use Rattle.block_regions.specs.Rows.{whole_box}
use Rattle.strided_rows.specs.Written.{planes_written, rows_of, rows_written}
use Rattle.strided_rows.proofs.Steps.{one_more_row, put_is_written}
use borrow.Rule.Slice.PartMut.{put_mid}

-- what each index of a box gives, x1 fastest
abbrev pub all_given : (ℕ → ℕ → ℕ → ℕ) → List ℕ → List ℕ
all_given g e = map (λ k. g (k % slice_index e 0) (k / slice_index e 0 % slice_index e 1) (k / slice_index e 0 / slice_index e 1)) (range_with_len 0 (count_of e))

pub all_given_length : (g : ℕ → ℕ → ℕ → ℕ) (e : List ℕ) → length (all_given g e) ≡ count_of e
all_given_length g e = length-map-range_with_len (λ k. g (k % slice_index e 0) (k / slice_index e 0 % slice_index e 1) (k / slice_index e 0 / slice_index e 1)) 0 (count_of e)

-- the whole list is a box in itself
pub whole_fits : (g : ℕ → ℕ → ℕ → ℕ) (e : List ℕ) → IsBoxIn e (whole_box e) (length (all_given g e))
whole_fits g e = record { along1 = omega arith; along2 = omega arith; along3 = omega arith; within = omega (arith, all_given_length g e) }

pub given_at : (g : ℕ → ℕ → ℕ → ℕ) (e : List ℕ) (x y z k : ℕ) → x < slice_index e 0 → y < slice_index e 1 → z < slice_index e 2 → k ≡ x + slice_index e 0 * (y + slice_index e 1 * z)
    → get_or (all_given g e) k 0 ≡ g x y z
given_at g e x y z k hx hy hz is =
    let n = slice_index e 0 in let m = slice_index e 1 in
    let f : ℕ → ℕ = λ k. g (k % n) (k / n % m) (k / n / m) in
    let below : x + n * (y + m * z) < count_of e = number_below x y z n m (slice_index e 2) hx hy hz in
    let rest = other_digits x (y + m * z) n hx in
    get_or-map-range_with_len f 0 (count_of e) k k 0 (omega (arith, below)) (omega arith)
    ∙ ap f is
    ∙ ap (λ v. g v ((x + n * (y + m * z)) / n % m) ((x + n * (y + m * z)) / n / m)) (first_digit x (y + m * z) n hx)
    ∙ ap (λ v. g x (v % m) (v / m)) rest
    ∙ ap (λ v. g x v ((y + m * z) / m)) (first_digit y z m hy)
    ∙ ap (g x y) (other_digits y z m hy)

source_length : (len : ℕ) (from : List ℕ) (a : ℕ) → a + len ≤ length from → length (map (λ n. n) (take len (drop a from))) ≡ len
source_length len from a ha = grind (arith, common_steps)

inner_length : (len : ℕ) (from : List ℕ) (a : ℕ) → a + len ≤ length from → length (take len (drop a from)) ≡ len
inner_length len from a ha = grind (arith, common_steps)

pub slice_length : (b len j : ℕ) (into : List ℕ) → b + len ≤ length into → j ≡ len → length (take j (drop b into)) ≡ len
slice_length b len j into room same_len = rw same_len (inner_length len into b room)

-- a row that has what each place gives is a row of that list
pub row_given : (g : ℕ → ℕ → ℕ → ℕ) (e : List ℕ) (row plane a j : ℕ) (new : List ℕ) → row < slice_index e 1 → plane < slice_index e 2 → j ≡ slice_index e 0 → a ≡ slice_index e 0 * (row + slice_index e 1 * plane)
    → length new ≡ slice_index e 0 → ((x : ℕ) → x < slice_index e 0 → get_or new x 0 ≡ g x row plane)
    → new ≡ map (λ n. n) (take j (drop a (all_given g e)))
row_given g e row plane a j new hr hp same_len same_start has each =
    let n = slice_index e 0 in
    let ends : n * (row + slice_index e 1 * plane) + n ≤ count_of e = row_ends n row (slice_index e 1) plane (slice_index e 2) hr hp in
    let room : a + j ≤ length (all_given g e) = omega (arith, ends, all_given_length g e) in
    ext_get_or 0 new (map (λ n. n) (take j (drop a (all_given g e)))) (omega (arith, source_length j (all_given g e) a room))
    (λ x h.
    let hx : x < n = omega arith in
    let inside : x < length (take j (drop a (all_given g e))) = omega (arith, inner_length j (all_given g e) a room) in
    each x hx
    ∙ sym (get_or-map (λ n. n) (take j (drop a (all_given g e))) x 0 0 inside
    ∙ get_or-take j (drop a (all_given g e)) x 0 (omega arith)
    ∙ get_or-drop a (all_given g e) x 0
    ∙ given_at g e x row plane (a + x) hx hr hp (omega arith)))
  where
    row_ends : (n y m z p : ℕ) → y < m → z < p → n * (y + m * z) + n ≤ n * m * p
    row_ends n y m z p hy hz =
        let below : m * (z + 1) ≤ m * p = mul-le-mul_left m (omega arith) in
        let whole_rows : n * (y + m * z + 1) ≤ n * (m * p) = mul-le-mul_left n (omega (arith, below)) in
        omega (arith, whole_rows)

-- one more row of a plane
pub row_put : (g : ℕ → ℕ → ℕ → ℕ) (e : List ℕ) (b : BoxIn) (row plane at j : ℕ) (into before new : List ℕ) → row < slice_index e 1 → plane < slice_index e 2 → j ≡ slice_index e 0
    → at ≡ address b (0 ∷ row ∷ plane ∷ []) → length new ≡ slice_index e 0 → ((x : ℕ) → x < slice_index e 0 → get_or new x 0 ≡ g x row plane)
    → into ≡ rows_written (λ n. n) (slice_index e 0) (all_given g e) (rows_of (planes_of (whole_box e)) plane) (rows_of (planes_of b) plane) row before
    → put_mid at j into new ≡ rows_written (λ n. n) (slice_index e 0) (all_given g e) (rows_of (planes_of (whole_box e)) plane) (rows_of (planes_of b) plane) (row + 1) before
row_put g e b row plane at j into before new hr hp same_len starts has each known =
    let n = slice_index e 0 in
    let from = (rows_of (planes_of (whole_box e)) plane).first + row * (rows_of (planes_of (whole_box e)) plane).step in
    let to = (rows_of (planes_of b) plane).first + row * (rows_of (planes_of b) plane).step in
    let there : at ≡ to = starts ∙ address_is b (0 ∷ row ∷ plane ∷ []) ∙ omega arith in
    let is : new ≡ map (λ n. n) (take n (drop from (all_given g e))) = row_given g e row plane from n new hr hp refl (omega arith) has each in
    ap (λ v. put_mid v j into new) there
    ∙ put_is_written (λ n. n) n (all_given g e) from to n j into new refl same_len is
    ∙ one_more_row (λ n. n) n (all_given g e) (rows_of (planes_of (whole_box e)) plane) (rows_of (planes_of b) plane) row into before known

-- what the whole box has in the end
pub box_given : (g : ℕ → ℕ → ℕ → ℕ) (e : List ℕ) (b : BoxIn) (p : ℕ) (old new i : List ℕ) → p ≡ slice_index e 2 → HasCells e → IsBoxIn e b (length old)
    → new ≡ planes_written (λ n. n) (slice_index e 0) (slice_index e 1) (all_given g e) (planes_of (whole_box e)) (planes_of b) p old
    → IsWithin e i → get_or new (address b i) 0 ≡ g (slice_index i 0) (slice_index i 1) (slice_index i 2)
box_given g e b p old new i end cells fits is w =
    ap (λ v. get_or v (address b i) 0) (is ∙ ap (λ q. planes_written (λ n. n) (slice_index e 0) (slice_index e 1) (all_given g e) (planes_of (whole_box e)) (planes_of b) q old) end)
    ∙ box-inside (λ n. n) e (all_given g e) (whole_box e) b old i cells (whole_fits g e) fits w
    ∙ given_at g e (slice_index i 0) (slice_index i 1) (slice_index i 2) (address (whole_box e) i) w.along1 w.along2 w.along3 (omega arith)

pub box_stays : (g : ℕ → ℕ → ℕ → ℕ) (e : List ℕ) (b : BoxIn) (p : ℕ) (old new : List ℕ) (n : ℕ) → p ≡ slice_index e 2 → HasCells e → IsBoxIn e b (length old)
    → new ≡ planes_written (λ n. n) (slice_index e 0) (slice_index e 1) (all_given g e) (planes_of (whole_box e)) (planes_of b) p old
    → ((i : List ℕ) → IsWithin e i → n ≢ address b i) → get_or new n 0 ≡ get_or old n 0
box_stays g e b p old new n end cells fits is off =
    ap (λ v. get_or v n 0) (is ∙ ap (λ q. planes_written (λ n. n) (slice_index e 0) (slice_index e 1) (all_given g e) (planes_of (whole_box e)) (planes_of b) q old) end)
    ∙ box-outside (λ n. n) e (all_given g e) (whole_box e) b old n cells (whole_fits g e) fits off
