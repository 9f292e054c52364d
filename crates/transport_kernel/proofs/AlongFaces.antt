-- A pass along an axis by the lists of what passes the faces.
use Rattle.std.proofs.Common.{◌≡◌, ℕ, ◌+◌, ◌-◌, ◌<◌, ◌≤◌, ◌^◌, true, false, List, slice_index, sym, ◌∙◌, ap, subst, arith}
use Rattle.block_layout.specs.declared.layout.Layout.{Layout}
use Rattle.block_layout.specs.Indices.{IsWithin}
use Rattle.cell_boxes.specs.declared.boxes.BoxIn.{BoxIn}
use Rattle.cell_boxes.specs.Boxes.{StaysOffBox, address}
use Rattle.stage_rules.specs.Rules.{Passes, after_pass}
use Rattle.box_updates.specs.Boxes.{IsUpdated, TakesBox}
use Rattle.transport_kernel.specs.Axis.{CanPassAlong, HasPassedAlong, cell_extents, cells_box, faces_box}
use Rattle.transport_kernel.specs.Update.{GhostsStay, face_beside, listed, total_at}
use Rattle.transport_kernel.proofs.Places.{cell_address, face_address, from_extents, in_extents}

numbers_pass : (o f s t u o' f' s' t' u' : ℕ) → o ≡ o' → f ≡ f' → s ≡ s' → t ≡ t' → u ≡ u' → t' + s' ≤ o' → o' + (f' + u') < 2 ^ 63
    → Passes (record { own = o; first = f; second = s; third = t; fourth = u })
numbers_pass o f s t u o' f' s' t' u' a b c d e pays small = record { pays = omega arith; small = omega arith }

passed_numbers : (o f s t u o' f' s' t' u' : ℕ) → o ≡ o' → f ≡ f' → s ≡ s' → t ≡ t' → u ≡ u' → after_pass (record { own = o; first = f; second = s; third = t; fourth = u }) ≡ o' + (f' + u') - (t' + s')
passed_numbers o f s t u o' f' s' t' u' a b c d e = cc

-- the boxes of a pass, whatever they are called
pub record BoxesAre (l : Layout) (axis : ℕ) (extents : List ℕ) (at low high : BoxIn) : Type 0 where
  pub cells_is : extents ≡ cell_extents l
  pub at_is : at ≡ cells_box l
  pub low_is : low ≡ faces_box l axis false
  pub high_is : high ≡ faces_box l axis true

pub own_is : (l : Layout) (at : BoxIn) (cells i : List ℕ) → at ≡ cells_box l → slice_index cells (address at i) ≡ total_at l cells i
own_is l at cells i e = ap (λ (b : BoxIn). slice_index cells (address b i)) e ∙ ap (slice_index cells) (cell_address l i)

face_is : (l : Layout) (axis : ℕ) (b : BoxIn) (list i : List ℕ) → axis < 3 → b ≡ faces_box l axis false → slice_index list (address b i) ≡ listed l list axis (face_beside i axis false)
face_is l axis b list i u e = ap (λ (v : BoxIn). slice_index list (address v i)) e ∙ ap (slice_index list) (face_address l axis false i u)

high_face_is : (l : Layout) (axis : ℕ) (b : BoxIn) (list i : List ℕ) → axis < 3 → b ≡ faces_box l axis true → slice_index list (address b i) ≡ listed l list axis (face_beside i axis true)
high_face_is l axis b list i u e = ap (λ (v : BoxIn). slice_index list (address v i)) e ∙ ap (slice_index list) (face_address l axis true i u)

pub taken_along : (l : Layout) (axis : ℕ) (cells right left extents : List ℕ) (at low high : BoxIn) → axis < 3 → BoxesAre l axis extents at low high
    → CanPassAlong l axis (listed l right) (listed l left) cells
    → TakesBox Passes extents cells at (record { one = right; first = low; second = high; other = left; third = low; fourth = high })
taken_along l axis cells right left extents at low high u b can i w =
    let v : IsWithin l.cells i = from_extents l i (subst (λ (x : List ℕ). IsWithin x i) b.cells_is w) in
    numbers_pass _ _ _ _ _ (total_at l cells i) (listed l right axis (face_beside i axis false)) (listed l right axis (face_beside i axis true)) (listed l left axis (face_beside i axis false)) (listed l left axis (face_beside i axis true))
    (own_is l at cells i b.at_is) (face_is l axis low right i u b.low_is) (high_face_is l axis high right i u b.high_is) (face_is l axis low left i u b.low_is) (high_face_is l axis high left i u b.high_is)
    (can.pays i v) (can.small i v)

pub passed_along : (l : Layout) (axis : ℕ) (cells new right left extents : List ℕ) (at low high : BoxIn) → axis < 3 → BoxesAre l axis extents at low high
    → IsUpdated after_pass extents cells at (record { one = right; first = low; second = high; other = left; third = low; fourth = high }) new
    → HasPassedAlong l axis (listed l right) (listed l left) cells new
passed_along l axis cells new right left extents at low high u b done i w =
    let v : IsWithin extents i = subst (λ (x : List ℕ). IsWithin x i) (sym b.cells_is) (in_extents l i w) in
    sym (own_is l at new i b.at_is)
    ∙ done i v
    ∙ passed_numbers _ _ _ _ _ (total_at l cells i) (listed l right axis (face_beside i axis false)) (listed l right axis (face_beside i axis true)) (listed l left axis (face_beside i axis false)) (listed l left axis (face_beside i axis true))
    (own_is l at cells i b.at_is) (face_is l axis low right i u b.low_is) (high_face_is l axis high right i u b.high_is) (face_is l axis low left i u b.low_is) (high_face_is l axis high left i u b.high_is)

pub ghosts_stay : (l : Layout) (extents old new : List ℕ) (at : BoxIn) → extents ≡ cell_extents l → at ≡ cells_box l → StaysOffBox extents at old new → GhostsStay l old new
ghosts_stay l extents old new at c e stays n off = stays n (λ i w p. off i (from_extents l i (subst (λ (x : List ℕ). IsWithin x i) c w)) (p ∙ ap (λ (b : BoxIn). address b i) e ∙ cell_address l i))
