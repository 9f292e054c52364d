-- Own totals that were made zero.
use Rattle.std.proofs.Common.{◌≡◌, ℕ, Bool, true, false, cond, List, ◌++◌, length, replicate, take, drop, refl, arith, ap, sym, ◌∙◌, slice_index, zero-add}
use Rattle.std.proofs.lemmas.Bool.{false≢true}
use Rattle.std.proofs.lemmas.List.{take-append-le, take_all}
use Rattle.block_layout.specs.declared.layout.Layout.{Layout}
use Rattle.block_layout.specs.Indices.{IsWithin, index_of}
use Rattle.block_layout.specs.Layouts.{interior_len, len}
use Rattle.block_layout.specs.Regions.{cell_place, interior}
use Rattle.block_layout.proofs.Boxes.{index_below}
use Rattle.block_geometry.specs.Blocks.{own_place}
use Rattle.block_regions.specs.Boxes.{box_of}
use Rattle.cell_boxes.specs.Boxes.{StaysOffBox, address}
use Rattle.letter_laws.proofs.Boxes.{table_same}
use Rattle.cycle_kernels.specs.Lists.{ghosts_in, is_own, own_totals, with_ghosts}
use Rattle.cycle_kernels.proofs.Tables.{zero_table}
use Rattle.cycle_kernel_links.proofs.Fluxes.{own_is_own}
use Rattle.cycle_kernel_links.proofs.Lists.{whole_again}
use Rattle.lent_bufs.specs.Cleared.{cleared_cells}

-- each own total is zero, and all else is as it was
pub cleared_is : (l : Layout) (old new : List ℕ) → length new ≡ len l →
    ((i : List ℕ) → IsWithin l.cells i → slice_index new (address (box_of l (interior l).low) i) ≡ 0) → StaysOffBox l.cells (box_of l (interior l).low) old new → new ≡ cleared_cells l old
cleared_is l old new long zeros stays =
    sym (whole_again l new long)
    ∙ ap (λ (v : List ℕ). with_ghosts l v (ghosts_in l new)) own
    ∙ ap (λ (v : List ℕ). with_ghosts l (replicate (interior_len l) 0) v) ghosts
  where
    at : (i : List ℕ) → address (box_of l (interior l).low) i ≡ own_place l i
    at i = zero-add (own_place l i)

    own : own_totals l new ≡ replicate (interior_len l) 0
    own =
        table_same (interior_len l) (λ k. slice_index new (cell_place l (interior l) k)) (λ _. 0)
        (λ k few. ap (slice_index new) (sym (at (index_of l.cells k))) ∙ zeros (index_of l.cells k) (index_below l.cells k few))
        ∙ zero_table (interior_len l) (λ _. 0) (λ _. refl)

    by : (n : ℕ) (t : Bool) → is_own l n ≡ t → cond t 0 (slice_index new n) ≡ cond t 0 (slice_index old n)
    by n true own = refl
    by n false ghost = stays n (λ i inside e. false≢true (sym ghost ∙ ap (is_own l) (e ∙ at i) ∙ own_is_own l i inside))

    ghosts : ghosts_in l new ≡ ghosts_in l old
    ghosts = table_same (len l) (λ n. cond (is_own l n) 0 (slice_index new n)) (λ n. cond (is_own l n) 0 (slice_index old n)) (λ n few. by n (is_own l n) refl)

-- a whole list that was written through a slice of it
pub written_whole : (old new : List ℕ) → length new ≡ length old → take (length old) (new ++ drop (length new) old) ≡ new
written_whole old new same = take-append-le (length old) new (drop (length new) old) (omega (arith, same)) ∙ take_all (length old) new (omega (arith, same))
