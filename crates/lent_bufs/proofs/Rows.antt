-- Rows of a block's own totals.
use Rattle.std.proofs.Common.{◌≡◌, ℕ, suc, ◌+◌, ◌-◌, ◌*◌, ◌<◌, ◌≤◌, List, length, take, drop, sum, arith, ap, sym, ◌∙◌, slice_index}
use Rattle.std.proofs.Math.Nat.{mul-le-mul_left}
use Rattle.std.proofs.lemmas.List.{get_or-drop, get_or-take}
use Rattle.mesh_rules.specs.Sums.{sum_to}
use Rattle.mesh_laws.proofs.Grids.{sum_product}
use Rattle.mesh_laws.proofs.Reactions.{sum_items}
use Rattle.mesh_laws.proofs.Totals.{sum_to-same}
use Rattle.block_layout.specs.declared.layout.Layout.{Layout}
use Rattle.block_layout.specs.Layouts.{interior_len, len}
use Rattle.block_layout.specs.Regions.{cell_place, interior}
use Rattle.block_layout.proofs.Sizes.{cells_at_most}
use Rattle.react_kernel.specs.Blocks.{inner_place}
use Rattle.react_kernel.proofs.Rows.{all_rows, inner_in_row, inner_within, row_cell}
use Rattle.letter_laws.proofs.Boxes.{table_at}
use Rattle.cycle_kernels.specs.Lists.{own_totals}
use Rattle.cycle_kernel_links.proofs.Lists.{own_long}

-- a row ends within the list
pub row_ends : (l : Layout) (row first : ℕ) → row < slice_index l.cells 1 * slice_index l.cells 2 → first ≡ inner_place l (row * slice_index l.cells 0) → first + slice_index l.cells 0 ≤ len l
row_ends l row first some is =
    let least : 1 ≤ slice_index l.cells 0 = l.sound.cells1.least in
    by (slice_index l.cells 0) (omega arith) (λ x h.
    let at = inner_in_row l row x first h is in
    let within = inner_within l (row * slice_index l.cells 0 + x) l.sound (row_cell l row x some h) in
    omega arith)
  where
    by : (n : ℕ) → 1 ≤ n → ((x : ℕ) → x < n → first + x < len l) → first + n ≤ len l
    by n least h = let last = h (n - 1) (omega arith) in omega arith

-- a cell of it is the block's own
pub own_in_row : (l : Layout) (cells : List ℕ) (row x first : ℕ) → row < slice_index l.cells 1 * slice_index l.cells 2 → x < slice_index l.cells 0 → first ≡ inner_place l (row * slice_index l.cells 0) →
    slice_index cells (first + x) ≡ slice_index (own_totals l cells) (row * slice_index l.cells 0 + x)
own_in_row l cells row x first some h is =
    let k : ℕ = row * slice_index l.cells 0 + x in
    ap (slice_index cells) (inner_in_row l row x first h is)
    ∙ sym (table_at (interior_len l) (λ k. slice_index cells (cell_place l (interior l) k)) k (row_cell l row x some h))

-- a row cut out of the list
pub cut_row : (l : Layout) (cells : List ℕ) (row x first n : ℕ) → row < slice_index l.cells 1 * slice_index l.cells 2 → x < slice_index l.cells 0 → first ≡ inner_place l (row * slice_index l.cells 0) → x < n →
    slice_index (take n (drop first cells)) x ≡ slice_index (own_totals l cells) (row * slice_index l.cells 0 + x)
cut_row l cells row x first n some h is few = get_or-take n (drop first cells) x 0 few ∙ get_or-drop first cells x 0 ∙ own_in_row l cells row x first some h is

-- what the rows before one hold
abbrev pub rows_sum : Layout → List ℕ → ℕ → ℕ
rows_sum l own rows = sum_to rows (λ row. sum_to (slice_index l.cells 0) (λ x. slice_index own (row * slice_index l.cells 0 + x)))

pub row_total : (l : Layout) (own row : List ℕ) (r : ℕ) → length row ≡ slice_index l.cells 0 → ((x : ℕ) → x < slice_index l.cells 0 → slice_index row x ≡ slice_index own (r * slice_index l.cells 0 + x)) →
    sum row ≡ sum_to (slice_index l.cells 0) (λ x. slice_index own (r * slice_index l.cells 0 + x))
row_total l own row r long same =
    sum_items row ∙ ap (λ n. sum_to n (slice_index row)) long
    ∙ sum_to-same (slice_index l.cells 0) (slice_index row) (λ x. slice_index own (r * slice_index l.cells 0 + x)) same

pub one_more : (n : ℕ) (each : ℕ → ℕ) → sum_to (n + 1) each ≡ sum_to n each + each n
one_more n each = let e : n + 1 ≡ suc n = omega arith in ap (λ (k : ℕ). sum_to k each) e

-- all rows
pub rows_are_all : (l : Layout) (cells : List ℕ) (rows : ℕ) → rows ≡ slice_index l.cells 1 * slice_index l.cells 2 → rows_sum l (own_totals l cells) rows ≡ sum (own_totals l cells)
rows_are_all l cells rows all =
    let own : List ℕ = own_totals l cells in
    let n : ℕ = slice_index l.cells 0 in
    sym (sum_product rows n (slice_index own))
    ∙ ap (λ k. sum_to k (slice_index own)) (all_rows rows n (slice_index l.cells 1) (slice_index l.cells 2) all ∙ sym (own_long l cells))
    ∙ sym (sum_items own)

pub few_rows : (l : Layout) → slice_index l.cells 1 * slice_index l.cells 2 ≤ 4096
few_rows l =
    let a = cells_at_most l 1 l.sound (omega arith) in
    let b = cells_at_most l 2 l.sound (omega arith) in
    by (slice_index l.cells 1) (slice_index l.cells 2) a b
  where
    by : (a b : ℕ) → a ≤ 64 → b ≤ 64 → a * b ≤ 4096
    by a b h k = let c : a * b ≤ a * 64 = mul-le-mul_left a k in omega arith
