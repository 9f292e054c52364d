-- Fine rows as shares of a coarse one.
use Rattle.std.proofs.Common.{◌≡◌, ℕ, zero, suc, ◌+◌, ◌*◌, ◌/◌, ◌%◌, ◌<◌, ◌≤◌, ◌^◌, List, [], ◌∷◌, take, drop, get_or, slice_index, refl, sym, ◌∙◌, ap, arith, ⊎_elim}
use Rattle.std.proofs.lemmas.Bool.{cases_lt}
use Rattle.std.proofs.lemmas.Bool.Decides.{nat_tests}
use Rattle.mesh_num.specs.Share.{share}
use Rattle.morton_order.specs.Space.{factor}
use Rattle.block_layout.specs.Indices.{count_of}
use Rattle.block_layout.proofs.Boxes.{quotient_below}
use Rattle.block_regions.specs.Rows.{IsRowOf, row_start}
use Rattle.restrict_prolong.specs.declared.shares.Shares.{Shares}
use Rattle.restrict_prolong.specs.Boxes.{at_box}
use Rattle.restrict_prolong.specs.Refined.{factors, part_number, share_in}
use Rattle.restrict_prolong.specs.Rows.{IsShareRow}
use Rattle.restrict_prolong.proofs.SumRows.{cell_of_row}

pub first_factor : (dims : ℕ) → 1 ≤ dims → factor dims 0 ≡ 2
first_factor dims a = grind (arith, nat_tests)

pub count_is : (dims : ℕ) → 1 ≤ dims → dims ≤ 3 → count_of (factors dims) ≡ 2 ^ dims
count_is zero a b = absurd (omega arith)
count_is (suc zero) a b = refl
count_is (suc (suc zero)) a b = refl
count_is (suc (suc (suc zero))) a b = refl
count_is (suc (suc (suc (suc d)))) a b = absurd (omega arith)

-- the number of a part by its halves
pub part_is : (dims x row plane : ℕ) → 1 ≤ dims → dims ≤ 3 → part_number (factors dims) (x ∷ row ∷ plane ∷ []) ≡ x % 2 + (2 * (row % factor dims 1) + 4 * (plane % factor dims 2))
part_is zero x row plane a b = absurd (omega arith)
part_is (suc zero) x row plane a b = omega arith
part_is (suc (suc zero)) x row plane a b = omega arith
part_is (suc (suc (suc zero))) x row plane a b = omega arith
part_is (suc (suc (suc (suc d)))) x row plane a b = absurd (omega arith)

pub part_below : (dims row plane : ℕ) → 1 ≤ dims → dims ≤ 3 → 2 * (row % factor dims 1) + 4 * (plane % factor dims 2) + 1 < 2 ^ dims
part_below zero row plane a b = absurd (omega arith)
part_below (suc zero) row plane a b = omega arith
part_below (suc (suc zero)) row plane a b = omega arith
part_below (suc (suc (suc zero))) row plane a b = omega arith
part_below (suc (suc (suc (suc d)))) row plane a b = absurd (omega arith)

-- the coarse row of a fine one
pub coarse_row : (s : Shares) (from : List ℕ) (n row plane : ℕ) → IsShareRow s from n row plane → IsRowOf s.coarse (row / factor s.dims 1) (plane / factor s.dims 2)
coarse_row s from n row plane is =
    record { row_in = quotient_below row (factor s.dims 1) (slice_index s.coarse 1) is.lies_in.row_in; plane_in = quotient_below plane (factor s.dims 2) (slice_index s.coarse 2) is.lies_in.plane_in }

-- what a fine cell has where the row has shares of the parts j and j + 1 by turns
pub share_of_row : (s : Shares) (from : List ℕ) (n row plane at k j x : ℕ) (new : List ℕ) → IsShareRow s from n row plane → k ≡ slice_index s.coarse 0
    → at ≡ row_start s.from_box (row / factor s.dims 1) (plane / factor s.dims 2) → j ≡ 2 * (row % factor s.dims 1) + 4 * (plane % factor s.dims 2)
    → ((h : ℕ) → h < k → get_or new (2 * h) 0 ≡ share (get_or (take k (drop at from)) h 0) (2 ^ s.dims) j)
    → ((h : ℕ) → h < k → get_or new (2 * h + 1) 0 ≡ share (get_or (take k (drop at from)) h 0) (2 ^ s.dims) (j + 1))
    → x < n → get_or new x 0 ≡ share_in (factors s.dims) (at_box from s.from_box) (x ∷ row ∷ plane ∷ [])
share_of_row s from n row plane at k j x new is long starts part low high h =
    let y = row / factor s.dims 1 in
    let z = plane / factor s.dims 2 in
    let half : x / 2 < k = omega (arith, is.whole, long) in
    let numbered = part_is s.dims x row plane is.least is.most in
    let given : (p i : ℕ) → get_or new i 0 ≡ share (get_or (take k (drop at from)) (x / 2) 0) (2 ^ s.dims) p → x ≡ i → p ≡ part_number (factors s.dims) (x ∷ row ∷ plane ∷ []) → get_or new x 0 ≡ share_in (factors s.dims) (at_box from s.from_box) (x ∷ row ∷ plane ∷ []) =
    λ p i e there same.
    ap (λ v. get_or new v 0) there ∙ e
    ∙ ap (λ v. share v (2 ^ s.dims) p) (cell_of_row s.from_box from at k (x / 2) y z half starts)
    ∙ ap (λ v. share (at_box from s.from_box ((x / v) ∷ y ∷ z ∷ [])) (2 ^ s.dims) p) (sym (first_factor s.dims is.least))
    ∙ ap (λ v. share (at_box from s.from_box ((x / factor s.dims 0) ∷ y ∷ z ∷ [])) v p) (sym (count_is s.dims is.least is.most))
    ∙ ap (λ v. share (at_box from s.from_box ((x / factor s.dims 0) ∷ y ∷ z ∷ [])) (count_of (factors s.dims)) v) same in
    ⊎_elim (λ (even : x % 2 < 1). given j (2 * (x / 2)) (low (x / 2) half) (omega arith) (part ∙ omega (arith, numbered, even)))
    (λ (odd : 1 ≤ x % 2). given (j + 1) (2 * (x / 2) + 1) (high (x / 2) half) (omega arith) (ap (λ v. v + 1) part ∙ omega (arith, numbered, odd)))
    (cases_lt (x % 2) 1)
