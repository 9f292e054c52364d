-- The rows of a box, and the addresses of its indices.
use Rattle.std.proofs.Common.{◌≡◌, ◌≢◌, ℕ, ◌+◌, ◌-◌, ◌*◌, ◌<◌, ◌≤◌, List, [], ◌∷◌, length, slice_index, sym, ◌∙◌, ap, inl, inr, arith, ⊎_elim}
use Rattle.std.proofs.lemmas.Bool.{cases_lt}
use Rattle.block_layout.specs.Indices.{IsWithin, added, count_of, number_of}
use Rattle.block_layout.proofs.Boxes.{number_below}
use Rattle.strided_rows.specs.Written.{Apart, FitPlanes, IsOff, planes_written}
use Rattle.strided_rows.proofs.Reading.{planes-inside, planes-outside}
use Rattle.cell_boxes.specs.declared.boxes.BoxIn.{BoxIn}
use Rattle.cell_boxes.specs.Boxes.{HasCells, IsBoxIn, address}
use Rattle.cell_boxes.specs.Planes.{planes_of}

-- an index along three axes
abbrev pub index : ℕ → ℕ → ℕ → List ℕ
index x y z = x ∷ y ∷ z ∷ []

polynomial : (f a b c x y z n m : ℕ) → f + (a + x + n * (b + y + m * (c + z))) ≡ f + (a + n * (b + m * c)) + z * (n * m) + y * n + x
polynomial f a b c x y z n m = omega arith

-- the address of an index, from the first row on
pub address_is : (b : BoxIn) (i : List ℕ) → address b i ≡ (planes_of b).first + slice_index i 2 * (planes_of b).plane + slice_index i 1 * (planes_of b).step + slice_index i 0
address_is b i = polynomial b.first (slice_index b.low 0) (slice_index b.low 1) (slice_index b.low 2) (slice_index i 0) (slice_index i 1) (slice_index i 2) (slice_index b.widths 0) (slice_index b.widths 1)

-- each index of the box is an address in the list
pub address_within : (extents : List ℕ) (b : BoxIn) (n : ℕ) (i : List ℕ) → IsBoxIn extents b n → IsWithin extents i → address b i < n
address_within extents b n i is w =
    let below : number_of b.widths (added b.low i) < count_of b.widths =
    number_below (slice_index b.low 0 + slice_index i 0) (slice_index b.low 1 + slice_index i 1) (slice_index b.low 2 + slice_index i 2)
    (slice_index b.widths 0) (slice_index b.widths 1) (slice_index b.widths 2)
    (omega (arith, is.along1, w.along1)) (omega (arith, is.along2, w.along2)) (omega (arith, is.along3, w.along3)) in
    omega (arith, is.within)

-- each row lies in the list
pub rows_fit : (extents : List ℕ) (b : BoxIn) (n : ℕ) → HasCells extents → IsBoxIn extents b n → FitPlanes (slice_index extents 0) (slice_index extents 1) (slice_index extents 2) (planes_of b) n
rows_fit extents b n cells is = λ plane row hp hr.
    let last = index (slice_index extents 0 - 1) row plane in
    let w : IsWithin extents last = record { along1 = omega (arith, cells.along1); along2 = hr; along3 = hp } in
    omega (arith, address_within extents b n last is w, address_is b last, cells.along1)

plane_holds : (e n m : ℕ) → e ≤ m → e * n ≤ n * m
plane_holds e n m h = grind arith

-- and they do not overlap
pub rows_apart : (extents : List ℕ) (b : BoxIn) (n : ℕ) → IsBoxIn extents b n → Apart (slice_index extents 0) (slice_index extents 1) (planes_of b)
rows_apart extents b n is = record { rows = omega (arith, is.along1); planes = plane_holds (slice_index extents 1) (slice_index b.widths 0) (slice_index b.widths 1) (omega (arith, is.along2)) }

pub box-inside : (gives : ℕ → ℕ) (extents : List ℕ) (from : List ℕ) (a b : BoxIn) (into : List ℕ) (i : List ℕ) → HasCells extents → IsBoxIn extents a (length from) → IsBoxIn extents b (length into) → IsWithin extents i
    → slice_index (planes_written gives (slice_index extents 0) (slice_index extents 1) from (planes_of a) (planes_of b) (slice_index extents 2) into) (address b i) ≡ gives (slice_index from (address a i))
box-inside gives extents from a b into i cells fa fb w =
    let written = planes_written gives (slice_index extents 0) (slice_index extents 1) from (planes_of a) (planes_of b) (slice_index extents 2) into in
    ap (slice_index written) (address_is b i)
    ∙ planes-inside gives (slice_index extents 0) (slice_index extents 1) from (planes_of a) (planes_of b) (slice_index extents 2) into (slice_index i 2) (slice_index i 1) (slice_index i 0)
    (rows_fit extents a (length from) cells fa) (rows_fit extents b (length into) cells fb) (rows_apart extents b (length into) fb) w.along3 w.along2 w.along1
    ∙ ap (λ (n : ℕ). gives (slice_index from n)) (sym (address_is a i))

-- a place that is no address of the box lies off each row
off_row : (extents : List ℕ) (b : BoxIn) (n plane row : ℕ) → plane < slice_index extents 2 → row < slice_index extents 1 → ((i : List ℕ) → IsWithin extents i → n ≢ address b i)
    → IsOff n ((planes_of b).first + plane * (planes_of b).plane + row * (planes_of b).step) (slice_index extents 0)
off_row extents b n plane row hp hr off =
    let start = (planes_of b).first + plane * (planes_of b).plane + row * (planes_of b).step in
    ⊎_elim (λ (h : n < start). inl h)
    (λ (h : start ≤ n). ⊎_elim
    (λ (k : n < start + slice_index extents 0).
    let i = index (n - start) row plane in
    let w : IsWithin extents i = record { along1 = omega arith; along2 = hr; along3 = hp } in
    let e : n ≡ address b i = omega (arith, address_is b i) in
    absurd (off i w e))
    (λ (k : start + slice_index extents 0 ≤ n). inr k)
    (cases_lt n (start + slice_index extents 0)))
    (cases_lt n start)

pub box-outside : (gives : ℕ → ℕ) (extents : List ℕ) (from : List ℕ) (a b : BoxIn) (into : List ℕ) (n : ℕ) → HasCells extents → IsBoxIn extents a (length from) → IsBoxIn extents b (length into) → ((i : List ℕ) → IsWithin extents i → n ≢ address b i)
    → slice_index (planes_written gives (slice_index extents 0) (slice_index extents 1) from (planes_of a) (planes_of b) (slice_index extents 2) into) n ≡ slice_index into n
box-outside gives extents from a b into n cells fa fb off =
    planes-outside gives (slice_index extents 0) (slice_index extents 1) from (planes_of a) (planes_of b) (slice_index extents 2) into n
    (rows_fit extents a (length from) cells fa) (rows_fit extents b (length into) cells fb) (λ plane row hp hr. off_row extents b n plane row hp hr off)

one_plane : (p m : ℕ) → 1 ≤ m → p ≤ p * m
one_plane p m h = grind arith

-- the numbers that lead to the first row are small enough
pub record FirstRowWithin (b : BoxIn) (n : ℕ) : Type 0 where
  pub first : b.first + number_of b.widths b.low < n
  pub plane : slice_index b.widths 0 * slice_index b.widths 1 ≤ n

pub first_row_within : (extents : List ℕ) (b : BoxIn) (n : ℕ) → HasCells extents → IsBoxIn extents b n → FirstRowWithin b n
first_row_within extents b n cells is =
    let zero_index = index 0 0 0 in
    let w : IsWithin extents zero_index = record { along1 = omega (arith, cells.along1); along2 = omega (arith, cells.along2); along3 = omega (arith, cells.along3) } in
    record {
      first = omega (arith, address_within extents b n zero_index is w, address_is b zero_index);
      plane = omega (arith, is.within, one_plane (slice_index b.widths 0 * slice_index b.widths 1) (slice_index b.widths 2) (omega (arith, is.along3, cells.along3)));
    }
