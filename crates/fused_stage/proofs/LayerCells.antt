-- Layers of cells along an axis, and the cells beside them.
use Rattle.std.proofs.Common.{◌≡◌, ◌⊎◌, ℕ, zero, suc, ◌+◌, ◌-◌, ◌<◌, ◌≤◌, Bool, true, false, cond, List, [], ◌∷◌, slice_index, sym, ◌∙◌, ap, subst, arith, inl, inr, zero-add}
use Rattle.block_layout.specs.declared.layout.Layout.{Layout}
use Rattle.block_layout.specs.Sizes.{IsLayout}
use Rattle.block_layout.specs.Indices.{IsWithin, added, index_of, number_of, with_along}
use Rattle.block_layout.specs.Layouts.{cells_along, ghost_layers, len, place, widths}
use Rattle.block_layout.specs.Regions.{interior}
use Rattle.block_layout.proofs.Boxes.{number_index}
use Rattle.block_layout.proofs.InBlock.{two_layers}
use Rattle.cell_boxes.specs.declared.boxes.BoxIn.{BoxIn}
use Rattle.cell_boxes.specs.Boxes.{HasCells, IsBoxIn, StaysOffBox, address}
use Rattle.row_updates.specs.Numbers.{Numbers}
use Rattle.box_updates.specs.Boxes.{IsUpdated, TakesBox, numbers_in}
use Rattle.upwind_fluxes.specs.declared.donor.Donor.{Donor}
use Rattle.upwind_fluxes.specs.declared.donor.Donor.TheVariants.{Below, Above}
use Rattle.upwind_fluxes.specs.Beside.{beside_face, steps_below}
use Rattle.upwind_fluxes.specs.Fluxes.{donor_total}
use Rattle.transport_kernel.specs.Update.{cell_place, face_beside, total_at}
use Rattle.fused_stage.specs.Layers.{HasLayers, IsInLayers, TakesLayers, beside_numbers, layer_box, layer_extents}

-- a cell is one of the layers from one on: its index among them, and among the interior cells
record IsShifted (axis from : ℕ) (j i : List ℕ) : Type 0 where
  along1 : slice_index i 0 ≡ slice_index (with_along axis from (0 ∷ 0 ∷ 0 ∷ [])) 0 + slice_index j 0
  along2 : slice_index i 1 ≡ slice_index (with_along axis from (0 ∷ 0 ∷ 0 ∷ [])) 1 + slice_index j 1
  along3 : slice_index i 2 ≡ slice_index (with_along axis from (0 ∷ 0 ∷ 0 ∷ [])) 2 + slice_index j 2

abbrev among : ℕ → ℕ → List ℕ → List ℕ
among axis from i = with_along axis (slice_index i axis - from) i

abbrev cell_of : ℕ → ℕ → List ℕ → List ℕ
cell_of axis from j = with_along axis (from + slice_index j axis) j

is_among : (axis from : ℕ) (i : List ℕ) → axis < 3 → from ≤ slice_index i axis → IsShifted axis from (among axis from i) i
is_among zero from i u h = record { along1 = omega arith; along2 = omega arith; along3 = omega arith }
is_among (suc zero) from i u h = record { along1 = omega arith; along2 = omega arith; along3 = omega arith }
is_among (suc (suc zero)) from i u h = record { along1 = omega arith; along2 = omega arith; along3 = omega arith }
is_among (suc (suc (suc a))) from i u h = absurd (omega arith)

is_cell : (axis from : ℕ) (j : List ℕ) → axis < 3 → IsShifted axis from j (cell_of axis from j)
is_cell zero from j u = record { along1 = omega arith; along2 = omega arith; along3 = omega arith }
is_cell (suc zero) from j u = record { along1 = omega arith; along2 = omega arith; along3 = omega arith }
is_cell (suc (suc zero)) from j u = record { along1 = omega arith; along2 = omega arith; along3 = omega arith }
is_cell (suc (suc (suc a))) from j u = absurd (omega arith)

within_layers : (l : Layout) (axis from depth : ℕ) (i : List ℕ) → axis < 3 → IsInLayers l axis from (from + depth) i → IsWithin (layer_extents l axis depth) (among axis from i)
within_layers l zero from depth i u w = record { along1 = omega (arith, w.least, w.most); along2 = w.within.along2; along3 = w.within.along3 }
within_layers l (suc zero) from depth i u w = record { along1 = w.within.along1; along2 = omega (arith, w.least, w.most); along3 = w.within.along3 }
within_layers l (suc (suc zero)) from depth i u w = record { along1 = w.within.along1; along2 = w.within.along2; along3 = omega (arith, w.least, w.most) }
within_layers l (suc (suc (suc a))) from depth i u w = absurd (omega arith)

in_layers : (l : Layout) (axis from depth : ℕ) (j : List ℕ) → axis < 3 → from + depth ≤ cells_along l axis → IsWithin (layer_extents l axis depth) j → IsInLayers l axis from (from + depth) (cell_of axis from j)
in_layers l zero from depth j u h w = record { within = record { along1 = omega (arith, w.along1); along2 = w.along2; along3 = w.along3 }; least = omega arith; most = omega (arith, w.along1) }
in_layers l (suc zero) from depth j u h w = record { within = record { along1 = w.along1; along2 = omega (arith, w.along2); along3 = w.along3 }; least = omega arith; most = omega (arith, w.along2) }
in_layers l (suc (suc zero)) from depth j u h w = record { within = record { along1 = w.along1; along2 = w.along2; along3 = omega (arith, w.along3) }; least = omega arith; most = omega (arith, w.along3) }
in_layers l (suc (suc (suc a))) from depth j u h w = absurd (omega arith)

-- where they lie
pub has_layers : (l : Layout) (axis depth : ℕ) → IsLayout l.dims l.cells → axis < 3 → 1 ≤ depth → HasCells (layer_extents l axis depth)
has_layers l zero depth s u h = record { along1 = h; along2 = s.cells2.least; along3 = s.cells3.least }
has_layers l (suc zero) depth s u h = record { along1 = s.cells1.least; along2 = h; along3 = s.cells3.least }
has_layers l (suc (suc zero)) depth s u h = record { along1 = s.cells1.least; along2 = s.cells2.least; along3 = h }
has_layers l (suc (suc (suc a))) depth s u h = absurd (omega arith)

pub layers_lie : (l : Layout) (axis at depth n : ℕ) → IsLayout l.dims l.cells → axis < l.dims → at + depth ≤ cells_along l axis + 4 → n ≡ len l → IsBoxIn (layer_extents l axis depth) (layer_box l axis at) n
layers_lie l zero at depth n s u h e = record { along1 = omega (arith, two_layers l 0 u); along2 = omega arith; along3 = omega arith; within = omega arith }
layers_lie l (suc zero) at depth n s u h e = record { along1 = omega arith; along2 = omega (arith, two_layers l 1 u); along3 = omega arith; within = omega arith }
layers_lie l (suc (suc zero)) at depth n s u h e = record { along1 = omega arith; along2 = omega arith; along3 = omega (arith, two_layers l 2 u); within = omega arith }
layers_lie l (suc (suc (suc a))) at depth n s u h e = absurd (omega (arith, s.most))

same_number : (n i j : List ℕ) → slice_index i 0 ≡ slice_index j 0 → slice_index i 1 ≡ slice_index j 1 → slice_index i 2 ≡ slice_index j 2 → number_of n i ≡ number_of n j
same_number n i j p q r = cc

beside_is : (l : Layout) (axis : ℕ) (donor : Donor) (high : Bool) (at from : ℕ) (j i : List ℕ) → axis < 3 → IsShifted axis from j i → at ≡ ghost_layers l axis - steps_below donor + (from + cond high 1 0)
    → address (layer_box l axis at) j ≡ place l (beside_face l axis donor (face_beside i axis high))
beside_is l zero donor high at from j i u s e =
    zero-add _ ∙ same_number (widths l) (added (layer_box l 0 at).low j) (beside_face l 0 donor (face_beside i 0 high)) (omega (arith, s.along1, e)) (omega (arith, s.along2)) (omega (arith, s.along3))
beside_is l (suc zero) donor high at from j i u s e =
    zero-add _ ∙ same_number (widths l) (added (layer_box l 1 at).low j) (beside_face l 1 donor (face_beside i 1 high)) (omega (arith, s.along1)) (omega (arith, s.along2, e)) (omega (arith, s.along3))
beside_is l (suc (suc zero)) donor high at from j i u s e =
    zero-add _ ∙ same_number (widths l) (added (layer_box l 2 at).low j) (beside_face l 2 donor (face_beside i 2 high)) (omega (arith, s.along1)) (omega (arith, s.along2)) (omega (arith, s.along3, e))
beside_is l (suc (suc (suc a))) donor high at from j i u s e = absurd (omega arith)

own_is : (l : Layout) (axis at from : ℕ) (j i : List ℕ) → axis < 3 → IsShifted axis from j i → at ≡ ghost_layers l axis + from → address (layer_box l axis at) j ≡ cell_place l i
own_is l zero at from j i u s e =
    zero-add _ ∙ same_number (widths l) (added (layer_box l 0 at).low j) (added (interior l).low i) (omega (arith, s.along1, e)) (omega (arith, s.along2)) (omega (arith, s.along3))
own_is l (suc zero) at from j i u s e =
    zero-add _ ∙ same_number (widths l) (added (layer_box l 1 at).low j) (added (interior l).low i) (omega (arith, s.along1)) (omega (arith, s.along2, e)) (omega (arith, s.along3))
own_is l (suc (suc zero)) at from j i u s e =
    zero-add _ ∙ same_number (widths l) (added (layer_box l 2 at).low j) (added (interior l).low i) (omega (arith, s.along1)) (omega (arith, s.along2)) (omega (arith, s.along3, e))
own_is l (suc (suc (suc a))) at from j i u s e = absurd (omega arith)

-- the cell above its low face is the cell itself, and so is the one below its high face
itself : (axis : ℕ) (i : List ℕ) → axis < 3 → IsShifted axis 0 i i
itself zero i u = record { along1 = omega arith; along2 = omega arith; along3 = omega arith }
itself (suc zero) i u = record { along1 = omega arith; along2 = omega arith; along3 = omega arith }
itself (suc (suc zero)) i u = record { along1 = omega arith; along2 = omega arith; along3 = omega arith }
itself (suc (suc (suc a))) i u = absurd (omega arith)

pub here_is : (l : Layout) (axis : ℕ) (cells i : List ℕ) → axis < 3 → donor_total l Above cells axis (face_beside i axis false) ≡ total_at l cells i
here_is l axis cells i u =
    let s = itself axis i u in
    ap (slice_index cells) (sym (beside_is l axis Above false (ghost_layers l axis) 0 i i u s (omega arith)) ∙ own_is l axis (ghost_layers l axis) 0 i i u s (omega arith))

pub here_below : (l : Layout) (axis : ℕ) (cells i : List ℕ) → axis < 3 → axis < l.dims → donor_total l Below cells axis (face_beside i axis true) ≡ total_at l cells i
here_below l axis cells i u used =
    let s = itself axis i u in
    ap (slice_index cells) (sym (beside_is l axis Below true (ghost_layers l axis) 0 i i u s (omega (arith, two_layers l axis used))) ∙ own_is l axis (ghost_layers l axis) 0 i i u s (omega arith))

-- the boxes of a pass over layers, whatever they are called
pub record BoxesAre (l : Layout) (axis from depth : ℕ) (extents : List ℕ) (below here above : BoxIn) : Type 0 where
  pub extents_are : extents ≡ layer_extents l axis depth
  pub below_is : below ≡ layer_box l axis (from + 1)
  pub here_is : here ≡ layer_box l axis (from + 2)
  pub above_is : above ≡ layer_box l axis (from + 3)

numbers_are : (l : Layout) (axis from : ℕ) (cells old j i : List ℕ) → axis < l.dims → IsLayout l.dims l.cells → IsShifted axis from j i
    → numbers_in old (layer_box l axis (from + 2)) (record { one = cells; first = layer_box l axis (from + 1); second = layer_box l axis (from + 2); other = cells; third = layer_box l axis (from + 2); fourth = layer_box l axis (from + 3) }) j
    ≡ beside_numbers l axis cells (total_at l old i) i
numbers_are l axis from cells old j i u sound s =
    let two = two_layers l axis u in
    let three : axis < 3 = omega (arith, sound.most) in
    let o = ap (slice_index old) (own_is l axis (from + 2) from j i three s (omega (arith, two))) in
    let f = ap (slice_index cells) (beside_is l axis Below false (from + 1) from j i three s (omega (arith, two))) in
    let h = ap (slice_index cells) (beside_is l axis Above false (from + 2) from j i three s (omega (arith, two))) in
    let t = ap (slice_index cells) (beside_is l axis Below true (from + 2) from j i three s (omega (arith, two))) in
    let a = ap (slice_index cells) (beside_is l axis Above true (from + 3) from j i three s (omega (arith, two))) in
    same_numbers _ _ _ _ _ _ _ _ _ _ o f h t a
  where
    same_numbers : (o f h t a o' f' h' t' a' : ℕ) → o ≡ o' → f ≡ f' → h ≡ h' → t ≡ t' → a ≡ a'
        → (let x : Numbers = record { own = o; first = f; second = h; third = t; fourth = a } in x) ≡ record { own = o'; first = f'; second = h'; third = t'; fourth = a' }
    same_numbers o f h t a o' f' h' t' a' p q r s w = cc

pub taken_layers : (takes : Numbers → Type 0) (l : Layout) (axis from depth : ℕ) (cells old extents : List ℕ) (below here above : BoxIn) → IsLayout l.dims l.cells → axis < l.dims → from + depth ≤ cells_along l axis
    → BoxesAre l axis from depth extents below here above → TakesLayers takes l axis from (from + depth) cells old
    → TakesBox takes extents old here (record { one = cells; first = below; second = here; other = cells; third = here; fourth = above })
taken_layers takes l axis from depth cells old extents below here above s u h b taken =
    rw (b.extents_are, b.below_is, b.here_is, b.above_is)
    (λ j w. subst takes (sym (numbers_are l axis from cells old j (cell_of axis from j) u s (is_cell axis from j three))) (taken (cell_of axis from j) (in_layers l axis from depth j three h w)))
  where
    three : axis < 3
    three = omega (arith, s.most)

-- two interior cells at one place are one
one_cell : (l : Layout) (axis : ℕ) (i j : List ℕ) → IsLayout l.dims l.cells → axis < 3 → IsWithin l.cells i → IsWithin l.cells j → cell_place l i ≡ cell_place l j → slice_index i axis ≡ slice_index j axis
one_cell l axis i j s u w v e =
    let a = number_index (widths l) (added (interior l).low i) (inside i w) in
    let b = number_index (widths l) (added (interior l).low j) (inside j v) in
    let same = ap (index_of (widths l)) e in
    pick axis u
    (omega (arith, a.along1, b.along1, ap (λ (x : List ℕ). slice_index x 0) same))
    (omega (arith, a.along2, b.along2, ap (λ (x : List ℕ). slice_index x 1) same))
    (omega (arith, a.along3, b.along3, ap (λ (x : List ℕ). slice_index x 2) same))
  where
    inside : (k : List ℕ) → IsWithin l.cells k → IsWithin (widths l) (added (interior l).low k)
    inside k z = record { along1 = omega (arith, z.along1); along2 = omega (arith, z.along2); along3 = omega (arith, z.along3) }

    pick : (axis : ℕ) → axis < 3 → slice_index i 0 ≡ slice_index j 0 → slice_index i 1 ≡ slice_index j 1 → slice_index i 2 ≡ slice_index j 2 → slice_index i axis ≡ slice_index j axis
    pick zero u p q r = p
    pick (suc zero) u p q r = q
    pick (suc (suc zero)) u p q r = r
    pick (suc (suc (suc a))) u p q r = absurd (omega arith)

off_layers : (l : Layout) (axis from depth : ℕ) (i j : List ℕ) → IsLayout l.dims l.cells → axis < l.dims → from + depth ≤ cells_along l axis → IsWithin l.cells i → ((slice_index i axis < from) ⊎ (from + depth ≤ slice_index i axis))
    → IsWithin (layer_extents l axis depth) j → cell_place l i ≡ address (layer_box l axis (from + 2)) j → ⊥
off_layers l axis from depth i j s u h w off z e =
    let three : axis < 3 = omega (arith, s.most) in
    let inside = in_layers l axis from depth j three h z in
    let same = one_cell l axis i (cell_of axis from j) s three w inside.within (e ∙ own_is l axis (from + 2) from j (cell_of axis from j) three (is_cell axis from j three) (omega (arith, two_layers l axis u))) in
    elim off [
      | inl low ↦ omega (arith, same, inside.least, low)
      | inr high ↦ omega (arith, same, inside.most, high)
    ]

pub layers_done : (gives : Numbers → ℕ) (l : Layout) (axis from depth : ℕ) (cells old new extents : List ℕ) (below here above : BoxIn) → IsLayout l.dims l.cells → axis < l.dims → from + depth ≤ cells_along l axis
    → BoxesAre l axis from depth extents below here above
    → IsUpdated gives extents old here (record { one = cells; first = below; second = here; other = cells; third = here; fourth = above }) new → StaysOffBox extents here old new
    → HasLayers (λ own i. gives (beside_numbers l axis cells own i)) l axis from (from + depth) old new
layers_done gives l axis from depth cells old new extents below here above s u h b = rw (b.extents_are, b.below_is, b.here_is, b.above_is)
    (λ done stays. record {
      inside = λ i w. inside done i w;
      outside = λ i w off. stays (cell_place l i) (λ j z e. off_layers l axis from depth i j s u h w off z e);
      ghosts = λ n off. stays n (λ j z e. off (cell_of axis from j) (in_layers l axis from depth j three h z).within
          (e ∙ own_is l axis (from + 2) from j (cell_of axis from j) three (is_cell axis from j three) (omega (arith, two_layers l axis u))));
    })
  where
    three : axis < 3
    three = omega (arith, s.most)

    inside : IsUpdated gives (layer_extents l axis depth) old (layer_box l axis (from + 2))
        (record { one = cells; first = layer_box l axis (from + 1); second = layer_box l axis (from + 2); other = cells; third = layer_box l axis (from + 2); fourth = layer_box l axis (from + 3) }) new
        → (i : List ℕ) → IsInLayers l axis from (from + depth) i → total_at l new i ≡ gives (beside_numbers l axis cells (total_at l old i) i)
    inside done i w =
        let t = is_among axis from i three w.least in
        ap (slice_index new) (sym (own_is l axis (from + 2) from (among axis from i) i three t (omega (arith, two_layers l axis u))))
        ∙ done (among axis from i) (within_layers l axis from depth i three w)
        ∙ ap gives (numbers_are l axis from cells old (among axis from i) i u s t)
