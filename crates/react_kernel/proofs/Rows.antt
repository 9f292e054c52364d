-- Where the interior cells of a block lie, row by row.
use Rattle.std.proofs.Common.{◌≡◌, ◌∙◌, sym, ap, ℕ, ◌+◌, ◌*◌, ◌/◌, ◌%◌, ◌<◌, ◌≤◌, Bool, true, false, cond, nat_lt, [], ◌∷◌, slice_index, arith}
use Rattle.block_layout.specs.declared.layout.Layout.{Layout}
use Rattle.block_layout.specs.Sizes.{IsLayout}
use Rattle.block_layout.specs.Indices.{index_of, number_of}
use Rattle.block_layout.specs.Layouts.{ghost_layers, interior_len, len, place, width, widths}
use Rattle.block_layout.specs.Regions.{cell_index, interior}
use Rattle.block_layout.proofs.Boxes.{first_digit, index_number, number_bound, number_index, other_digits, row_below}
use Rattle.block_layout.proofs.InBlock.{interior_lies}
use Rattle.block_layout.proofs.Sizes.{cells_at_most, product_at_most}
use Rattle.react_kernel.specs.Blocks.{inner_place}

pub inner_within : (l : Layout) (k : ℕ) → IsLayout l.dims l.cells → k < interior_len l → inner_place l k < len l
inner_within l k sound h = number_bound (widths l) (cell_index (interior l) k) (interior_lies l sound k h)

pub few_cells : (l : Layout) → IsLayout l.dims l.cells → interior_len l ≤ 262144
few_cells l sound =
    product_at_most (slice_index l.cells 0) (slice_index l.cells 1) (slice_index l.cells 2) 64 (cells_at_most l 0 sound (omega arith)) (cells_at_most l 1 sound (omega arith)) (cells_at_most l 2 sound (omega arith))

-- no two interior cells lie at one place
pub inner_same : (l : Layout) (j k : ℕ) → IsLayout l.dims l.cells → j < interior_len l → k < interior_len l → inner_place l j ≡ inner_place l k → j ≡ k
inner_same l j k sound h i e =
    let a = number_index (widths l) (cell_index (interior l) j) (interior_lies l sound j h) in
    let b = number_index (widths l) (cell_index (interior l) k) (interior_lies l sound k i) in
    let n = l.cells in
    let same = λ (axis : ℕ). ap (λ (p : ℕ). slice_index (index_of (widths l) p) axis) e in
    let one : slice_index (cell_index (interior l) j) 0 ≡ slice_index (cell_index (interior l) k) 0 = sym a.along1 ∙ (same 0 ∙ b.along1) in
    let two : slice_index (cell_index (interior l) j) 1 ≡ slice_index (cell_index (interior l) k) 1 = sym a.along2 ∙ (same 1 ∙ b.along2) in
    let three : slice_index (cell_index (interior l) j) 2 ≡ slice_index (cell_index (interior l) k) 2 = sym a.along3 ∙ (same 2 ∙ b.along3) in
    let d1 : j % slice_index n 0 ≡ k % slice_index n 0 = omega (arith, one) in
    let d2 : j / slice_index n 0 % slice_index n 1 ≡ k / slice_index n 0 % slice_index n 1 = omega (arith, two) in
    let d3 : j / slice_index n 0 / slice_index n 1 ≡ k / slice_index n 0 / slice_index n 1 = omega (arith, three) in
    sym (index_number n j)
    ∙ (ap (λ (x : ℕ). x + slice_index n 0 * (j / slice_index n 0 % slice_index n 1 + slice_index n 1 * (j / slice_index n 0 / slice_index n 1))) d1
    ∙ (ap (λ (x : ℕ). k % slice_index n 0 + slice_index n 0 * (x + slice_index n 1 * (j / slice_index n 0 / slice_index n 1))) d2
    ∙ (ap (λ (x : ℕ). k % slice_index n 0 + slice_index n 0 * (k / slice_index n 0 % slice_index n 1 + slice_index n 1 * x)) d3
    ∙ index_number n k)))

-- a cell of a row, by the numbers of row and cell
abbrev pub row_place : Layout → ℕ → ℕ → ℕ
row_place l row x =
    number_of (widths l) ((slice_index (interior l).low 0 + x) ∷ (slice_index (interior l).low 1 + row % slice_index l.cells 1) ∷ (slice_index (interior l).low 2 + row / slice_index l.cells 1) ∷ [])

pub inner_row : (l : Layout) (row x : ℕ) → x < slice_index l.cells 0 → inner_place l (row * slice_index l.cells 0 + x) ≡ row_place l row x
inner_row l row x h =
    let n = slice_index l.cells 0 in
    let k : row * n + x ≡ x + n * row = omega arith in
    let digit : (row * n + x) % n ≡ x = ap (λ (q : ℕ). q % n) k ∙ first_digit x row n h in
    let rest : (row * n + x) / n ≡ row = ap (λ (q : ℕ). q / n) k ∙ other_digits x row n h in
    let low = (interior l).low in
    let at = λ (d r : ℕ). number_of (widths l) ((slice_index low 0 + d) ∷ (slice_index low 1 + r % slice_index l.cells 1) ∷ (slice_index low 2 + r / slice_index l.cells 1) ∷ []) in
    ap (λ (d : ℕ). at d ((row * n + x) / n)) digit ∙ ap (λ (r : ℕ). at x r) rest

pub row_moves : (l : Layout) (row x : ℕ) → row_place l row x ≡ row_place l row 0 + x
row_moves l row x = omega arith

pub inner_in_row : (l : Layout) (row x first : ℕ) → x < slice_index l.cells 0 → first ≡ inner_place l (row * slice_index l.cells 0) → first + x ≡ inner_place l (row * slice_index l.cells 0 + x)
inner_in_row l row x first h is =
    let a : inner_place l (row * slice_index l.cells 0 + x) ≡ row_place l row x = inner_row l row x h in
    let b : inner_place l (row * slice_index l.cells 0 + 0) ≡ row_place l row 0 = inner_row l row 0 (omega arith) in
    let z : inner_place l (row * slice_index l.cells 0 + 0) ≡ inner_place l (row * slice_index l.cells 0) = ap (λ (k : ℕ). inner_place l k) (omega arith) in
    let m : row_place l row x ≡ row_place l row 0 + x = row_moves l row x in
    omega arith

pub row_cell : (l : Layout) (row x : ℕ) → row < slice_index l.cells 1 * slice_index l.cells 2 → x < slice_index l.cells 0 → row * slice_index l.cells 0 + x < interior_len l
row_cell l row x h k =
    let a = row_below x row (slice_index l.cells 0) (slice_index l.cells 1 * slice_index l.cells 2) k h in
    omega (arith, a)

-- the first cell of a row
pub row_start_place : (l : Layout) (row first : ℕ) → 0 < slice_index l.cells 0 → first ≡ row_place l row 0 → first ≡ inner_place l (row * slice_index l.cells 0)
row_start_place l row first some is =
    let b : inner_place l (row * slice_index l.cells 0 + 0) ≡ row_place l row 0 = inner_row l row 0 some in
    let z : inner_place l (row * slice_index l.cells 0 + 0) ≡ inner_place l (row * slice_index l.cells 0) = ap (λ (k : ℕ). inner_place l k) (omega arith) in
    omega arith

pub row_from : (l : Layout) (row a b c : ℕ) → a ≡ ghost_layers l 0 → b ≡ ghost_layers l 1 → c ≡ ghost_layers l 2
    → place l (a ∷ (b + row % slice_index l.cells 1) ∷ (c + row / slice_index l.cells 1) ∷ []) ≡ row_place l row 0
row_from l row a b c d e f =
    let y = row % slice_index l.cells 1 in
    let z = row / slice_index l.cells 1 in
    let more : a ≡ ghost_layers l 0 + 0 = omega arith in
    ap (λ (x : ℕ). place l (x ∷ (b + y) ∷ (c + z) ∷ [])) more
    ∙ (ap (λ (x : ℕ). place l ((ghost_layers l 0 + 0) ∷ (x + y) ∷ (c + z) ∷ [])) e
    ∙ ap (λ (x : ℕ). place l ((ghost_layers l 0 + 0) ∷ (ghost_layers l 1 + y) ∷ (x + z) ∷ [])) f)

ghosts_most : (b : Bool) → cond b 2 0 ≤ 2
ghosts_most true = omega arith
ghosts_most false = omega arith

pub few_places : (l : Layout) → IsLayout l.dims l.cells → len l ≤ 314432
few_places l sound =
    let a = cells_at_most l 0 sound (omega arith) in
    let b = cells_at_most l 1 sound (omega arith) in
    let c = cells_at_most l 2 sound (omega arith) in
    let d : ghost_layers l 0 ≤ 2 = ghosts_most (nat_lt 0 l.dims) in
    let e : ghost_layers l 1 ≤ 2 = ghosts_most (nat_lt 1 l.dims) in
    let f : ghost_layers l 2 ≤ 2 = ghosts_most (nat_lt 2 l.dims) in
    product_at_most (width l 0) (width l 1) (width l 2) 68 (omega (arith, a, d)) (omega (arith, b, e)) (omega (arith, c, f))

-- a row more, and all rows
pub next_row : (row n x : ℕ) → x ≡ n → row * n + x ≡ (row + 1) * n
next_row row n x e = omega (arith, e, more row n)
  where
    more : (a b : ℕ) → (a + 1) * b ≡ a * b + b
    more a b = grind arith

pub all_rows : (row a b c : ℕ) → row ≡ b * c → row * a ≡ a * b * c
all_rows row a b c e = ap (λ (r : ℕ). r * a) e ∙ turned b c a
  where
    turned : (x y z : ℕ) → x * y * z ≡ z * x * y
    turned x y z = grind arith
