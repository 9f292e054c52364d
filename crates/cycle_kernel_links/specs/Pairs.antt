-- What flux kernels, updates and corrections promise gives the pairs of a cycle.
use Rattle.std.specs.Prelude.{◌≡◌, ℕ, ◌+◌, ◌<◌, Bool, true, false, not, List, length, slice_index}
use Rattle.std.specs.List.{list_any}
use Rattle.morton_order.specs.Neighbours.{across}
use Rattle.mesh_rules.specs.Due.{Exchange, flux_letters}
use Rattle.mesh_rules.specs.Fields.{kind_at, moves_at, rates_at}
use Rattle.block_layout.specs.Indices.{IsWithin, number_of}
use Rattle.block_layout.specs.Layouts.{len}
use Rattle.block_layout.specs.Faces.{face_count, face_extents, face_number}
use Rattle.block_layout.specs.Regions.{covers}
use Rattle.block_laws.specs.Rates.{reflects}
use Rattle.upwind_fluxes.specs.declared.donor.Donor.{Donor}
use Rattle.upwind_fluxes.specs.declared.donor.Donor.TheVariants.{Below, Above}
use Rattle.upwind_fluxes.specs.declared.rates.LevelRates.{LevelRates}
use Rattle.upwind_fluxes.specs.Fluxes.{AreFluxes, is_closed_side}
use Rattle.upwind_fluxes.specs.Rates.{along}
use Rattle.slope_kernel.specs.Slopes.{AreSlopeFluxes}
use Rattle.transport_kernel.specs.Update as transport
use Rattle.transport_kernel.specs.Update.{HasPassed, listed}
use Rattle.flux_correct.specs.Corrected.{IsCorrected}
use Rattle.flux_correct.specs.Sums.{coarse_extents, flux_in, flux_part}
use Rattle.cycle_kernels.specs.Blocks.{CycleMesh, leaf_at}
use Rattle.cycle_kernels.specs.Laws.{IsCycleMesh}
use Rattle.cycle_kernels.specs.Lists.{ghosts_in, own_totals}
use Rattle.cycle_kernels.specs.Letters.{part_covered, same_letter}
use Rattle.cycle_kernels.specs.Pairs.{FacePairs, corrected_by, faces_corrected, first_sum, fluxes_of, sums_sent, updated_by}

-- rates are those of a field on a block, and just the reflecting faces of the domain that the block has are closed
pub record AreRatesOn (w : CycleMesh) (f b : ℕ) (rates : LevelRates) : Type 0 where
  pub denominator : rates.denominator ≡ w.settings.denominator
  pub right : (axis : ℕ) → axis < w.layout.dims →
      (along rates axis).right ≡ (rates_at w.settings f axis (leaf_at w b).level).right
  pub left : (axis : ℕ) → axis < w.layout.dims →
      (along rates axis).left ≡ (rates_at w.settings f axis (leaf_at w b).level).left

abbrev pub ClosesSides : CycleMesh → ℕ → List Bool → Type 0
ClosesSides w b closed = (axis : ℕ) (high : Bool) → axis < w.layout.dims →
    is_closed_side closed axis high ≡ reflects (kind_at w.settings axis high)
    (across w.mesh.shape (leaf_at w b) axis high)

-- lists have what passes the faces of a block, by the field's order
pub record AreFluxLists (w : CycleMesh) (f : ℕ) (rates : LevelRates) (closed : List Bool) (cells : List ℕ)
    (pairs : FacePairs) : Type 0 where
  pub right_long : length pairs.right ≡ face_count w.layout
  pub left_long : length pairs.left ≡ face_count w.layout
  pub first_right : (moves_at w.settings f).order ≡ 1 → AreFluxes w.layout Below rates closed cells pairs.right
  pub first_left : (moves_at w.settings f).order ≡ 1 → AreFluxes w.layout Above rates closed cells pairs.left
  pub second_right : (moves_at w.settings f).order ≡ 2 → AreSlopeFluxes w.layout Below rates closed cells pairs.right
  pub second_left : (moves_at w.settings f).order ≡ 2 → AreSlopeFluxes w.layout Above rates closed cells pairs.left

-- they are those of the cycle
abbrev pub FluxesAreListed : Type 0
FluxesAreListed = (w : CycleMesh) (f b : ℕ) (rates : LevelRates) (closed : List Bool) (cells : List ℕ)
    (pairs : FacePairs) → IsCycleMesh w → AreRatesOn w f b rates → ClosesSides w b closed →
    length cells ≡ len w.layout →
    AreFluxLists w f rates closed cells pairs →
    fluxes_of w b f (own_totals w.layout cells) (ghosts_in w.layout cells) ≡ pairs

-- the sums of a flux letter that is due
abbrev pub GatheredAreSent : Type 0
GatheredAreSent = (w : CycleMesh) (x : Exchange) (pairs : FacePairs) →
    list_any (same_letter x) (flux_letters w.mesh) ≡ true →
    flux_part w.layout x.axis (not x.high) pairs.right pairs.left ≡ sums_sent w x pairs

-- an update leaves the totals of the cycle, and the ghosts
pub record IsUpdated (w : CycleMesh) (old new : List ℕ) (pairs : FacePairs) : Type 0 where
  pub own : own_totals w.layout new ≡ updated_by w (own_totals w.layout old) pairs
  pub ghosts : ghosts_in w.layout new ≡ ghosts_in w.layout old

abbrev pub UpdatesAreThose : Type 0
UpdatesAreThose = (w : CycleMesh) (old new : List ℕ) (pairs : FacePairs) →
    HasPassed w.layout (listed w.layout pairs.right) (listed w.layout pairs.left) old new →
    transport.GhostsStay w.layout old new → IsUpdated w old new pairs

-- a flux letter that is due to a block
pub record IsFluxDueTo (w : CycleMesh) (b : ℕ) (x : Exchange) : Type 0 where
  pub due : list_any (same_letter x) (flux_letters w.mesh) ≡ true
  pub is_to : x.to ≡ b

-- its sums stand in the faces that it is about
abbrev pub IsReplacedBy : CycleMesh → Donor → Exchange → List ℕ → List ℕ → Type 0
IsReplacedBy w donor x part list = (i : List ℕ) → IsWithin (coarse_extents w.layout x.axis) i →
    flux_in w.layout x.axis (faces_corrected w x) list i ≡
    slice_index part (first_sum w.layout donor x.axis + number_of (coarse_extents w.layout x.axis) i)

-- a face that no letter to a block is about
abbrev pub IsOwnFace : CycleMesh → ℕ → ℕ → List ℕ → Type 0
IsOwnFace w b axis i = (x : Exchange) → IsFluxDueTo w b x → x.axis ≡ axis → covers (faces_corrected w x) i ≡ false

-- all letters to a block were put in the place of what passed the faces that they are about, and all other faces have
-- what they had
pub record AreAllReplaced (w : CycleMesh) (b : ℕ) (donor : Donor) (parts : Exchange → List ℕ)
    (old new : List ℕ) : Type 0 where
  pub long : length new ≡ face_count w.layout
  pub given : (x : Exchange) → IsFluxDueTo w b x → IsReplacedBy w donor x (parts x) new
  pub others : (axis : ℕ) (i : List ℕ) → axis < w.layout.dims → IsWithin (face_extents w.layout axis) i →
      IsOwnFace w b axis i → slice_index new (face_number w.layout axis i) ≡ slice_index old (face_number w.layout axis i)

-- then they are the corrected pairs of the cycle
abbrev pub ReplacedAreCorrected : Type 0
ReplacedAreCorrected = (w : CycleMesh) (b : ℕ) (parts : Exchange → List ℕ) (old new : FacePairs) → IsCycleMesh w →
    AreAllReplaced w b Below parts old.right new.right → AreAllReplaced w b Above parts old.left new.left →
    corrected_by w b old parts ≡ new

-- what one replacement promises of a list, by the direction
abbrev pub IsReplacement : CycleMesh → Donor → Exchange → List ℕ → List ℕ → List ℕ → Type 0
IsReplacement w donor x part old new = IsCorrected w.layout x.axis x.high (part_covered w x)
    (first_sum w.layout donor x.axis) part old new

-- where one more letter is put in, the sums of the others stay, and so does what passes other faces
pub record PairsStay : Type 0 where
  pub here : (w : CycleMesh) (donor : Donor) (x : Exchange) (part old new : List ℕ) →
      IsReplacement w donor x part old new → IsReplacedBy w donor x part new
  pub letters : (w : CycleMesh) (b : ℕ) (donor : Donor) (x y : Exchange) (part other old new : List ℕ) →
      IsCycleMesh w → IsFluxDueTo w b x → IsFluxDueTo w b y → ¬ (x ≡ y) → IsReplacement w donor y other old new →
      IsReplacedBy w donor x part old → IsReplacedBy w donor x part new
  pub others : (w : CycleMesh) (b : ℕ) (donor : Donor) (y : Exchange) (axis : ℕ) (other old new i : List ℕ) →
      IsCycleMesh w → IsFluxDueTo w b y → axis < w.layout.dims → IsWithin (face_extents w.layout axis) i →
      IsOwnFace w b axis i → IsReplacement w donor y other old new →
      slice_index new (face_number w.layout axis i) ≡ slice_index old (face_number w.layout axis i)
