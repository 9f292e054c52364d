-- The own cells of a block in its list.
use Rattle.std.proofs.Common.{◌≡◌, ℕ, ◌+◌, ◌*◌, List, [], ◌∷◌, zero-add, ap, sym, ◌∙◌, slice_index}
use Rattle.block_layout.specs.declared.layout.Layout.{Layout}
use Rattle.block_layout.specs.Indices.{IsWithin, added, number_of}
use Rattle.block_layout.specs.Layouts.{ghost_layers, widths}
use Rattle.block_layout.specs.Regions.{interior}
use Rattle.cell_boxes.specs.declared.boxes.BoxIn.{BoxIn}
use Rattle.cell_boxes.specs.Boxes.{HasBox, StaysOffBox, address}
use Rattle.block_regions.specs.Boxes.{box_of}
use Rattle.block_regions.specs.Rows.{whole_box}
use Rattle.block_regions.specs.Written.{HasRegion, StaysOffRegion, place_in}
use Rattle.restrict_prolong.specs.Refined.{at_index}

-- the cells of a block along each axis
abbrev pub counts : Layout → List ℕ
counts l = slice_index l.cells 0 ∷ slice_index l.cells 1 ∷ slice_index l.cells 2 ∷ []

-- where an own cell lies in the box of the interior, and in the list of its own
own_address : (l : Layout) (i : List ℕ) → address (box_of l (interior l).low) i ≡ place_in l (interior l) i
own_address l i = zero-add (number_of (widths l) (added (interior l).low i))

whole_address : (l : Layout) (i : List ℕ) → address (whole_box (counts l)) i ≡ number_of l.cells i
whole_address l i =
    let n1 : ℕ = slice_index l.cells 0 in
    let n2 : ℕ = slice_index l.cells 1 in
    let i1 : ℕ = slice_index i 0 in
    let i2 : ℕ = slice_index i 1 in
    let i3 : ℕ = slice_index i 2 in
    zero-add (0 + i1 + n1 * (0 + i2 + n2 * (0 + i3)))
    ∙ ap (λ v. v + n1 * (0 + i2 + n2 * (0 + i3))) (zero-add i1)
    ∙ ap (λ v. i1 + n1 * (v + n2 * (0 + i3))) (zero-add i2)
    ∙ ap (λ v. i1 + n1 * (i2 + n2 * v)) (zero-add i3)

-- layers of ghosts as the code finds them
lows : (a b c d e f : ℕ) → a ≡ d → b ≡ e → c ≡ f → ◌≡◌ {A = List ℕ} (a ∷ b ∷ c ∷ []) (d ∷ e ∷ f ∷ [])
lows a b c d e f p q r = cc

into_is : (l : Layout) (g1 g2 g3 : ℕ) (into : BoxIn) → g1 ≡ ghost_layers l 0 → g2 ≡ ghost_layers l 1 → g3 ≡ ghost_layers l 2 → into ≡ box_of l (g1 ∷ g2 ∷ g3 ∷ []) → into ≡ box_of l (interior l).low
into_is l g1 g2 g3 into a b c is = is ∙ ap (box_of l) (lows g1 g2 g3 (ghost_layers l 0) (ghost_layers l 1) (ghost_layers l 2) a b c)

pub own_written : (l : Layout) (own new : List ℕ) (g1 g2 g3 : ℕ) (from into : BoxIn) → g1 ≡ ghost_layers l 0 → g2 ≡ ghost_layers l 1 → g3 ≡ ghost_layers l 2 → into ≡ box_of l (g1 ∷ g2 ∷ g3 ∷ []) → from ≡ whole_box (counts l) →
    HasBox (λ n. n) (counts l) own from new into → HasRegion l (interior l) (at_index l.cells own) new
own_written l own new g1 g2 g3 from into a b c is whole has i w =
    let inside : IsWithin (counts l) i = record { along1 = w.along1; along2 = w.along2; along3 = w.along3 } in
    ap (slice_index new) (sym (own_address l i) ∙ ap (λ (v : BoxIn). address v i) (sym (into_is l g1 g2 g3 into a b c is)))
    ∙ has i inside
    ∙ ap (slice_index own) (ap (λ (v : BoxIn). address v i) whole ∙ whole_address l i)

pub others_kept : (l : Layout) (old new : List ℕ) (g1 g2 g3 : ℕ) (into : BoxIn) → g1 ≡ ghost_layers l 0 → g2 ≡ ghost_layers l 1 → g3 ≡ ghost_layers l 2 → into ≡ box_of l (g1 ∷ g2 ∷ g3 ∷ []) →
    StaysOffBox (counts l) into old new → StaysOffRegion l (interior l) old new
others_kept l old new g1 g2 g3 into a b c is stays n off =
    stays n (λ i w e. off i (record { along1 = w.along1; along2 = w.along2; along3 = w.along3 }) (e ∙ ap (λ (v : BoxIn). address v i) (into_is l g1 g2 g3 into a b c is) ∙ own_address l i))
