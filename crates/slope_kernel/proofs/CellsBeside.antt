-- The cells beside the faces of an axis.
use Rattle.std.proofs.Common.{◌≡◌, ℕ, zero, suc, ◌<◌, ◌≤◌, List, length, slice_index, sym, ◌∙◌, ap, subst, arith, refl, zero-add, All}
use Rattle.mesh_num.specs.Portion.{portion}
use Rattle.block_layout.specs.declared.layout.Layout.{Layout}
use Rattle.block_layout.specs.Sizes.{IsLayout}
use Rattle.block_layout.specs.Indices.{IsWithin}
use Rattle.block_layout.specs.Layouts.{len}
use Rattle.block_layout.specs.Faces.{face_count, face_extents, face_number, first_face}
use Rattle.block_layout.proofs.FaceNumbers.{faces_in_use, rising, whole_count}
use Rattle.block_layout.proofs.InBlock.{two_layers}
use Rattle.cell_boxes.specs.declared.boxes.BoxIn.{BoxIn}
use Rattle.cell_boxes.specs.Boxes.{HasCells, IsBoxIn, StaysOffBox, address}
use Rattle.cell_boxes.proofs.Rows.{address_within}
use Rattle.stage_rules.specs.Rules.{limited}
use Rattle.box_updates.specs.Boxes.{IsUpdated}
use Rattle.upwind_fluxes.specs.declared.donor.Donor.{Donor}
use Rattle.upwind_fluxes.specs.declared.donor.Donor.TheVariants.{Below, Above}
use Rattle.upwind_fluxes.specs.Fluxes.{OthersStay}
use Rattle.upwind_fluxes.proofs.Addresses.{face_address, other_face}
use Rattle.slope_kernel.specs.Beside.{cells_beside, faces_of, number_ahead, number_behind, number_here}
use Rattle.slope_kernel.specs.Slopes.{SlopesPaid, donor_at, total_beside}

pub behind_bound : (donor : Donor) → number_behind donor ≤ 3
behind_bound Below = omega arith
behind_bound Above = omega arith

pub here_bound : (donor : Donor) → number_here donor ≤ 3
here_bound Below = omega arith
here_bound Above = omega arith

pub ahead_bound : (donor : Donor) → number_ahead donor ≤ 3
ahead_bound Below = omega arith
ahead_bound Above = omega arith

pub has_faces : (l : Layout) (axis : ℕ) → IsLayout l.dims l.cells → axis < 3 → HasCells (face_extents l axis)
has_faces l zero s u = record { along1 = omega arith; along2 = s.cells2.least; along3 = s.cells3.least }
has_faces l (suc zero) s u = record { along1 = s.cells1.least; along2 = omega arith; along3 = s.cells3.least }
has_faces l (suc (suc zero)) s u = record { along1 = s.cells1.least; along2 = s.cells2.least; along3 = omega arith }
has_faces l (suc (suc (suc a))) s u = absurd (omega arith)

pub cells_lie : (l : Layout) (axis number n : ℕ) → IsLayout l.dims l.cells → axis < l.dims → number ≤ 3 → n ≡ len l → IsBoxIn (face_extents l axis) (cells_beside l axis number) n
cells_lie l zero number n s u h e = record { along1 = omega (arith, two_layers l 0 u); along2 = omega arith; along3 = omega arith; within = omega arith }
cells_lie l (suc zero) number n s u h e = record { along1 = omega arith; along2 = omega (arith, two_layers l 1 u); along3 = omega arith; within = omega arith }
cells_lie l (suc (suc zero)) number n s u h e = record { along1 = omega arith; along2 = omega arith; along3 = omega (arith, two_layers l 2 u); within = omega arith }
cells_lie l (suc (suc (suc a))) number n s u h e = absurd (omega (arith, s.most))

pub faces_lie : (l : Layout) (axis n : ℕ) → IsLayout l.dims l.cells → axis < l.dims → n ≡ face_count l → IsBoxIn (face_extents l axis) (faces_of l axis) n
faces_lie l axis n s u e = record {
  along1 = omega arith;
  along2 = omega arith;
  along3 = omega arith;
  within = omega (arith, faces_in_use l axis u, rising l axis 3 (omega (arith, s.most)), whole_count l);
}

total_is : (l : Layout) (axis number : ℕ) (b : BoxIn) (cells i : List ℕ) → b ≡ cells_beside l axis number → slice_index cells (address b i) ≡ total_beside l cells axis number i
total_is l axis number b cells i e = ap (λ (v : BoxIn). slice_index cells (address v i)) e ∙ ap (slice_index cells) (zero-add _)

donor_is : (l : Layout) (donor : Donor) (cells : List ℕ) (axis : ℕ) (i : List ℕ)
    → limited (total_beside l cells axis (number_behind donor) i) (total_beside l cells axis (number_here donor) i) (total_beside l cells axis (number_ahead donor) i) ≡ donor_at l donor cells axis i
donor_is l Below cells axis i = refl
donor_is l Above cells axis i = refl

-- the boxes of a pass over faces, whatever they are called
pub record BesideAre (l : Layout) (axis : ℕ) (donor : Donor) (far payers next : BoxIn) (a b c : ℕ) : Type 0 where
  pub far_number : a ≡ number_behind donor
  pub payer_number : b ≡ number_here donor
  pub next_number : c ≡ number_ahead donor
  pub far_is : far ≡ cells_beside l axis a
  pub payers_are : payers ≡ cells_beside l axis b
  pub next_is : next ≡ cells_beside l axis c

pub paid_at_faces : (l : Layout) (axis : ℕ) (donor : Donor) (rate denominator : ℕ) (cells old new extents : List ℕ) (at far payers next : BoxIn) (a b c : ℕ) → BesideAre l axis donor far payers next a b c
    → extents ≡ face_extents l axis → at ≡ faces_of l axis
    → IsUpdated (λ n. portion (limited n.first n.second n.third) rate denominator) extents old at (record { one = cells; first = far; second = payers; other = cells; third = next; fourth = next }) new
    → SlopesPaid l axis donor rate denominator cells new
paid_at_faces l axis donor rate denominator cells old new extents at far payers next a b c is e f done i w =
    let far_total = total_is l axis (number_behind donor) far cells i (is.far_is ∙ ap (cells_beside l axis) is.far_number) in
    let payer_total = total_is l axis (number_here donor) payers cells i (is.payers_are ∙ ap (cells_beside l axis) is.payer_number) in
    let next_total = total_is l axis (number_ahead donor) next cells i (is.next_is ∙ ap (cells_beside l axis) is.next_number) in
    ap (slice_index new) (sym (ap (λ (v : BoxIn). address v i) f ∙ face_address l axis (first_face l axis) (face_extents l axis) i refl refl))
    ∙ done i (subst (λ (v : List ℕ). IsWithin v i) (sym e) w)
    ∙ ap (λ (v : ℕ). portion (limited v (slice_index cells (address payers i)) (slice_index cells (address next i))) rate denominator) far_total
    ∙ ap (λ (v : ℕ). portion (limited (total_beside l cells axis (number_behind donor) i) v (slice_index cells (address next i))) rate denominator) payer_total
    ∙ ap (λ (v : ℕ). portion (limited (total_beside l cells axis (number_behind donor) i) (total_beside l cells axis (number_here donor) i) v) rate denominator) next_total
    ∙ ap (λ (v : ℕ). portion v rate denominator) (donor_is l donor cells axis i)

pub others_stay : (l : Layout) (axis : ℕ) (old new extents : List ℕ) (at : BoxIn) → IsLayout l.dims l.cells → axis < l.dims → extents ≡ face_extents l axis → at ≡ faces_of l axis
    → StaysOffBox extents at old new → OthersStay l axis old new
others_stay l axis old new extents at s u e f stays other i v different w =
    stays (face_number l other i) (λ j z p. other_face l axis other (first_face l axis) (face_extents l axis) i j s u v different refl refl w (subst (λ (n : List ℕ). IsWithin n j) e z)
    (p ∙ ap (λ (b : BoxIn). address b j) f))

-- a bound on all totals is one on those that are read
pub total_within : (P : ℕ → Type 0) (extents cells : List ℕ) (b : BoxIn) (i : List ℕ) → IsBoxIn extents b (length cells) → IsWithin extents i → All P cells → P (slice_index cells (address b i))
total_within P extents cells b i lies w all = all (address b i) 0 (address_within extents b (length cells) i lies w)
