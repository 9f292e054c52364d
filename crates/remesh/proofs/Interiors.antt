-- The own cells of a block in its list.
use Rattle.std.proofs.Common.{◌≡◌, ℕ, ◌+◌, List, [], ◌∷◌, zero-add, length, slice_index, ap, sym, ◌∙◌}
use Rattle.block_layout.specs.declared.layout.Layout.{Layout}
use Rattle.block_layout.specs.Indices.{IsWithin, added, index_of, number_of}
use Rattle.block_layout.specs.Layouts.{ghost_layers, interior_len, widths}
use Rattle.block_layout.specs.Regions.{cell_place, interior}
use Rattle.block_layout.proofs.Boxes.{index_below, index_number}
use Rattle.cell_boxes.specs.declared.boxes.BoxIn.{BoxIn}
use Rattle.cell_boxes.specs.Boxes.{HasBox, address}
use Rattle.block_regions.specs.Boxes.{box_of}
use Rattle.block_regions.specs.Rows.{whole_box}
use Rattle.restrict_prolong.proofs.Wholes.{whole_address}
use Rattle.dense_mesh.proofs.Tables.{table_by}
use Rattle.cell_block.specs.Rules.{interior_of}

-- the cells of a block along each axis
abbrev pub counts : Layout → List ℕ
counts l = slice_index l.cells 0 ∷ slice_index l.cells 1 ∷ slice_index l.cells 2 ∷ []

lows : (a b c d e f : ℕ) → a ≡ d → b ≡ e → c ≡ f → ◌≡◌ {A = List ℕ} (a ∷ b ∷ c ∷ []) (d ∷ e ∷ f ∷ [])
lows a b c d e f p q r = cc

pub interior_written : (l : Layout) (own new : List ℕ) (g1 g2 g3 : ℕ) (from into : BoxIn) → g1 ≡ ghost_layers l 0 → g2 ≡ ghost_layers l 1 → g3 ≡ ghost_layers l 2 → into ≡ box_of l (g1 ∷ g2 ∷ g3 ∷ []) → from ≡ whole_box (counts l) →
    length own ≡ interior_len l → HasBox (λ n. n) (counts l) own from new into → interior_of l new ≡ own
interior_written l own new g1 g2 g3 from into a b c is whole long has =
    sym (table_by own (interior_len l) (λ k. slice_index new (cell_place l (interior l) k)) 0 long
    (λ k small.
    let i : List ℕ = index_of l.cells k in
    let w = index_below l.cells k small in
    let inside : IsWithin (counts l) i = record { along1 = w.along1; along2 = w.along2; along3 = w.along3 } in
    let there : address into i ≡ cell_place l (interior l) k =
    ap (λ (v : BoxIn). address v i) (is ∙ ap (box_of l) (lows g1 g2 g3 (ghost_layers l 0) (ghost_layers l 1) (ghost_layers l 2) a b c)) ∙ zero-add (number_of (widths l) (added (interior l).low i)) in
    let here : address from i ≡ k = ap (λ (v : BoxIn). address v i) whole ∙ whole_address (counts l) i ∙ index_number l.cells k in
    sym (ap (slice_index new) (sym there) ∙ has i inside ∙ ap (slice_index own) here)))
