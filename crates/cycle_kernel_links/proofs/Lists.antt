-- A block's list by its own totals and its ghosts.
use Rattle.std.proofs.Common.{◌≡◌, ℕ, ◌+◌, ◌-◌, ◌<◌, ◌≤◌, Bool, true, false, cond, List, length, refl, arith, ap, sym, ◌∙◌, slice_index}
use Rattle.std.proofs.lemmas.List.{ext_get_or}
use Rattle.block_layout.specs.declared.layout.Layout.{Layout}
use Rattle.block_layout.specs.Indices.{IsWithin, added, index_of, number_of}
use Rattle.block_layout.specs.Layouts.{interior_len, len, place, widths}
use Rattle.block_layout.specs.Regions.{Region, cell_place, covers, interior}
use Rattle.block_layout.proofs.Boxes.{index_below, index_number, number_bound}
use Rattle.block_geometry.specs.Blocks.{own_place}
use Rattle.restrict_prolong.proofs.Halves.{same_three}
use Rattle.letter_laws.proofs.Boxes.{table_at}
use Rattle.cycle_kernels.specs.Lists.{ghosts_in, index_at, is_own, less, own_number, own_totals, with_ghosts}
use Rattle.cycle_kernels.proofs.Tables.{table_long}
use Rattle.cycle_kernel_laws.proofs.Apart.{inside_of}
use Rattle.cycle_kernel_laws.proofs.Given.{less_within, index_again, own_total, three}
use Rattle.cycle_kernel_links.specs.Lists.{AreGhosts}

-- an index that a region covers, in it and in the block
add_back : (low x : ℕ) → low ≤ x → low + (x - low) ≡ x
add_back low x h = omega arith

pub added_less : (low u : List ℕ) → ((k : ℕ) → k < 3 → slice_index low k ≤ slice_index u k) → added low (less u low) ≡ three u
added_less low u h = same_three _ _ _ (slice_index u 0) (slice_index u 1) (slice_index u 2) (add_back (slice_index low 0) (slice_index u 0) (h 0 (omega arith))) (add_back (slice_index low 1) (slice_index u 1) (h 1 (omega arith))) (add_back (slice_index low 2) (slice_index u 2) (h 2 (omega arith)))

pub place_again : (l : Layout) (n : ℕ) → place l (index_at l n) ≡ n
place_again l n = index_number (widths l) n

-- where a covered index lies
pub covered_place : (l : Layout) (r : Region) (n : ℕ) → covers r (index_at l n) ≡ true → place l (added r.low (less (index_at l n) r.low)) ≡ n
covered_place l r n c =
    let inside = inside_of r (index_at l n) c in
    ap (place l) (added_less r.low (index_at l n) (λ k g. (inside k g).least)) ∙ place_again l n

-- the own totals
pub own_at : (l : Layout) (cells i : List ℕ) → IsWithin l.cells i → slice_index (own_totals l cells) (number_of l.cells i) ≡ slice_index cells (own_place l i)
own_at l cells i w =
    table_at (interior_len l) (λ k. slice_index cells (cell_place l (interior l) k)) (number_of l.cells i) (number_bound l.cells i w)
    ∙ ap (λ (v : List ℕ). slice_index cells (place l (added (interior l).low v))) (index_again l.cells i w)

cell_of_own : (l : Layout) (cells : List ℕ) (n : ℕ) → is_own l n ≡ true → slice_index (own_totals l cells) (own_number l n) ≡ slice_index cells n
cell_of_own l cells n own =
    own_at l cells (less (index_at l n) (interior l).low) (less_within (interior l) (index_at l n) (inside_of (interior l) (index_at l n) own))
    ∙ ap (slice_index cells) (covered_place l (interior l) n own)

pub own_long : (l : Layout) (cells : List ℕ) → length (own_totals l cells) ≡ interior_len l
own_long l cells = table_long (interior_len l) (λ k. slice_index cells (cell_place l (interior l) k))

pub whole_long : (l : Layout) (own ghosts : List ℕ) → length (with_ghosts l own ghosts) ≡ len l
whole_long l own ghosts = table_long (len l) (λ n. cond (is_own l n) (slice_index own (own_number l n)) (slice_index ghosts n))

pub ghosts_long : (l : Layout) (cells : List ℕ) → length (ghosts_in l cells) ≡ len l
ghosts_long l cells = table_long (len l) (λ n. cond (is_own l n) 0 (slice_index cells n))

pub ghost_at : (l : Layout) (cells : List ℕ) (n : ℕ) → n < len l → slice_index (ghosts_in l cells) n ≡ cond (is_own l n) 0 (slice_index cells n)
ghost_at l cells n few = table_at (len l) (λ n. cond (is_own l n) 0 (slice_index cells n)) n few

pub whole_at : (l : Layout) (own ghosts : List ℕ) (n : ℕ) → n < len l → slice_index (with_ghosts l own ghosts) n ≡ cond (is_own l n) (slice_index own (own_number l n)) (slice_index ghosts n)
whole_at l own ghosts n few = table_at (len l) (λ n. cond (is_own l n) (slice_index own (own_number l n)) (slice_index ghosts n)) n few

-- two lists of one length that agree
pub same_lists : (xs ys : List ℕ) (n : ℕ) → length xs ≡ n → length ys ≡ n → ((k : ℕ) → k < n → slice_index xs k ≡ slice_index ys k) → xs ≡ ys
same_lists xs ys n a b h = ext_get_or 0 xs ys (a ∙ sym b) (λ k few. h k (omega (arith, a)))

pub whole_again : (l : Layout) (cells : List ℕ) → length cells ≡ len l → with_ghosts l (own_totals l cells) (ghosts_in l cells) ≡ cells
whole_again l cells long =
    same_lists (with_ghosts l (own_totals l cells) (ghosts_in l cells)) cells (len l) (whole_long l (own_totals l cells) (ghosts_in l cells)) long
    (λ n few. whole_at l (own_totals l cells) (ghosts_in l cells) n few ∙ ap (λ v. cond (is_own l n) (slice_index (own_totals l cells) (own_number l n)) v) (ghost_at l cells n few) ∙ by n (is_own l n) refl)
  where
    by : (n : ℕ) (t : Bool) → is_own l n ≡ t → cond t (slice_index (own_totals l cells) (own_number l n)) (cond t 0 (slice_index cells n)) ≡ slice_index cells n
    by n true own = cell_of_own l cells n own
    by n false own = refl

pub own_again : (l : Layout) (own ghosts : List ℕ) → length own ≡ interior_len l → own_totals l (with_ghosts l own ghosts) ≡ own
own_again l own ghosts long =
    same_lists (own_totals l (with_ghosts l own ghosts)) own (interior_len l) (own_long l (with_ghosts l own ghosts)) long
    (λ k few.
    let i : List ℕ = index_of l.cells k in
    let w = index_below l.cells k few in
    ap (slice_index (own_totals l (with_ghosts l own ghosts))) (sym (index_number l.cells k))
    ∙ own_at l (with_ghosts l own ghosts) i w
    ∙ own_total l own ghosts i w
    ∙ ap (slice_index own) (index_number l.cells k))

pub ghosts_again : (l : Layout) (own ghosts : List ℕ) → AreGhosts l ghosts → ghosts_in l (with_ghosts l own ghosts) ≡ ghosts
ghosts_again l own ghosts are =
    same_lists (ghosts_in l (with_ghosts l own ghosts)) ghosts (len l) (ghosts_long l (with_ghosts l own ghosts)) are.long
    (λ n few. ghost_at l (with_ghosts l own ghosts) n few ∙ ap (λ v. cond (is_own l n) 0 v) (whole_at l own ghosts n few) ∙ by n (is_own l n) refl)
  where
    by : (n : ℕ) (t : Bool) → is_own l n ≡ t → cond t 0 (cond t (slice_index own (own_number l n)) (slice_index ghosts n)) ≡ slice_index ghosts n
    by n true e = sym (are.empty n e)
    by n false e = refl
