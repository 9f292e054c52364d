-- The fluxes of a block are the mesh's own pairs.
use Rattle.std.proofs.Common.{◌≡◌, ℕ, zero, suc, ◌+◌, ◌-◌, ◌*◌, ◌<◌, Bool, true, false, cond, Option, Some, None, List, [], ◌∷◌, not, refl, arith, ap, sym, ◌∙◌, slice_index}
use Rattle.mesh_num.specs.Portion.{portion}
use Rattle.morton_order.specs.declared.space.Loc.{Loc}
use Rattle.morton_order.specs.Space.{child}
use Rattle.block_tree.specs.Behind.{children_at}
use Rattle.mesh_settings.specs.declared.words.FaceKind.{FaceKind}
use Rattle.mesh_settings.specs.declared.words.FaceKind.TheVariants.{Periodic, Outflow, Reflecting, Inflow}
use Rattle.mesh_rules.specs.Fields.{FaceRates, kind_at, moves_at, rates_at}
use Rattle.mesh_rules.specs.Faces.{Looks, Pair, cell_across, face_pair, face_pair_by, looks_at, own_pair, pair, pair_outside, reconstructed, sum_pairs}
use Rattle.block_layout.specs.declared.layout.Layout.{Layout}
use Rattle.block_layout.specs.Indices.{IsWithin, added, with_along}
use Rattle.block_layout.specs.Layouts.{cells_along as layout_cells, ghost_layers, place, widths}
use Rattle.block_layout.specs.Faces.{face_extents, face_of}
use Rattle.block_geometry.specs.Blocks.{FieldBlock, IsFieldBlock, cell_in, row_place}
use Rattle.block_geometry.specs.Contents.{HasInterior, SeesAround, is_finer_in, looks_in_row, pair_of}
use Rattle.block_geometry.proofs.Rows.{two_layers}
use Rattle.block_geometry.proofs.Seen.{rows_are_looks, three_axes}
use Rattle.upwind_fluxes.specs.declared.donor.Donor.{Donor}
use Rattle.upwind_fluxes.specs.declared.donor.Donor.TheVariants.{Below, Above}
use Rattle.upwind_fluxes.specs.declared.rates.LevelRates.{LevelRates}
use Rattle.upwind_fluxes.specs.Fluxes.{AreFluxes, donor_total, flux_at, is_closed}
use Rattle.upwind_fluxes.specs.Rates.{along, rate_of}
use Rattle.block_laws.specs.Pairs.{FirstOrderPairs}
use Rattle.block_laws.specs.Rates.{AreRatesOf, ClosesReflecting, reflects}
use Rattle.block_laws.proofs.Closed.{closed_is, reflects_some}

-- a pair by its direction
abbrev pub passing : Bool → Pair → ℕ
passing true x = x.right
passing false x = x.left

-- a face's pair where no finer cells are stored behind it
pub where_own : (b : FieldBlock) (i : List ℕ) (axis : ℕ) (high right : Bool) (own : ℕ) (o : Option Loc) → is_finer_in b.mesh o ≡ false →
    own ≡ passing right (own_pair b.settings b.mesh b.field (cell_in b.mesh b.leaf i) axis high) →
    cond (reflects (kind_at b.settings axis high) o) 0 own ≡ passing right (face_pair_by b.settings b.mesh b.field (cell_in b.mesh b.leaf i) axis high o)
where_own b i axis high right own None h e = by (kind_at b.settings axis high) right e
  where
    by : (kind : FaceKind) (way : Bool) → own ≡ passing way (own_pair b.settings b.mesh b.field (cell_in b.mesh b.leaf i) axis high) → cond (reflects kind None) 0 own ≡ passing way (pair_outside kind (own_pair b.settings b.mesh b.field (cell_in b.mesh b.leaf i) axis high))
    by Reflecting true e = refl
    by Reflecting false e = refl
    by Periodic way e = e
    by Outflow way e = e
    by Inflow way e = e
where_own b i axis high right own (Some o) h e =
    ap (λ (t : Bool). cond t 0 own) (reflects_some (kind_at b.settings axis high) o) ∙ e
    ∙ sym (ap (λ (t : Bool). passing right (cond t (sum_pairs (children_at b.mesh.shape.dims axis (not high)) (λ j. own_pair b.settings b.mesh b.field (child b.mesh.shape.dims o j) axis (not high))) (own_pair b.settings b.mesh b.field (cell_in b.mesh b.leaf i) axis high))) h)

-- the place of a cell that lies a number of cells further in the row than a face
pub row_by : (l : Layout) (axis k x y : ℕ) (i : List ℕ) → axis < 3 → k + x ≡ y → place l (added (with_along axis k (ghost_layers l 0 ∷ ghost_layers l 1 ∷ ghost_layers l 2 ∷ [])) (with_along axis x i)) ≡ row_place l axis y i
row_by l zero k x y i h e = ap (λ v. v + slice_index (widths l) 0 * ((ghost_layers l 1 + slice_index i 1) + slice_index (widths l) 1 * (ghost_layers l 2 + slice_index i 2))) e
row_by l (suc zero) k x y i h e = ap (λ v. (ghost_layers l 0 + slice_index i 0) + slice_index (widths l) 0 * (v + slice_index (widths l) 1 * (ghost_layers l 2 + slice_index i 2))) e
row_by l (suc (suc zero)) k x y i h e = ap (λ v. (ghost_layers l 0 + slice_index i 0) + slice_index (widths l) 0 * ((ghost_layers l 1 + slice_index i 1) + slice_index (widths l) 1 * v)) e
row_by l (suc (suc (suc a))) k x y i h e = absurd (omega arith)

below_at : (g x : ℕ) → g ≡ 2 → g - 1 + x ≡ x + 1
below_at g x e = omega arith

above_at : (g x : ℕ) → g ≡ 2 → g - 0 + x ≡ x + 2
above_at g x e = omega arith

-- the index of a face of a cell is one of the faces of its axis
half_step : (u n : ℕ) (high : Bool) → u < n → u + cond high 1 0 < n + 1
half_step u n true h = omega arith
half_step u n false h = omega arith

pub face_within : (l : Layout) (axis : ℕ) (high : Bool) (i : List ℕ) → IsWithin l.cells i → axis < 3 → IsWithin (face_extents l axis) (with_along axis (slice_index i axis + cond high 1 0) i)
face_within l zero high i w h = record { along1 = half_step (slice_index i 0) (layout_cells l 0) high w.along1; along2 = w.along2; along3 = w.along3 }
face_within l (suc zero) high i w h = record { along1 = w.along1; along2 = half_step (slice_index i 1) (layout_cells l 1) high w.along2; along3 = w.along3 }
face_within l (suc (suc zero)) high i w h = record { along1 = w.along1; along2 = w.along2; along3 = half_step (slice_index i 2) (layout_cells l 2) high w.along3 }
face_within l (suc (suc (suc a))) high i w h = absurd (omega arith)

-- what the total that pays at a face counts for, by order and direction, and by which rate
abbrev pub counted : Bool → ℕ → Looks → ℕ
counted true order x = reconstructed order x.far_below x.below x.above
counted false order x = reconstructed order x.far_above x.above x.below

abbrev pub by_way : Bool → FaceRates → ℕ
by_way true rates = rates.right
by_way false rates = rates.left

pair_counts : (order : ℕ) (right : Bool) (x : Looks) (rates : FaceRates) → portion (counted right order x) (by_way right rates) rates.denominator ≡ passing right (pair order rates x)
pair_counts order true x rates = refl
pair_counts order false x rates = refl

abbrev pub paying : Bool → Looks → ℕ
paying true x = x.below
paying false x = x.above

first_counts : (order : ℕ) (right : Bool) (x : Looks) → order ≡ 1 → paying right x ≡ counted right order x
first_counts order true x e = sym (ap (λ o. reconstructed o x.far_below x.below x.above) e)
first_counts order false x e = sym (ap (λ o. reconstructed o x.far_above x.above x.below) e)

-- a block with its ghosts, its rates and its closed sides
pub record Given (b : FieldBlock) (rates : LevelRates) (closed : List Bool) (cells : List ℕ) : Type 0 where
  pub sound : IsFieldBlock b
  pub rated : AreRatesOf b rates
  pub closes : ClosesReflecting b closed
  pub has : HasInterior b cells
  pub sees : SeesAround b cells

abbrev pub donor_of : Bool → Donor
donor_of true = Below
donor_of false = Above

rate_is : (b : FieldBlock) (rates : LevelRates) (axis : ℕ) (right : Bool) → AreRatesOf b rates → axis < b.layout.dims →
    rate_of (along rates axis) (donor_of right) ≡ by_way right (rates_at b.settings b.field axis b.leaf.level)
rate_is b rates axis true a used = a.right axis used
rate_is b rates axis false a used = a.left axis used

-- what a total that counts for the right one pays, and nothing through a closed face, is the mesh's pair
pub pays_right : (b : FieldBlock) (rates : LevelRates) (closed : List Bool) (cells i : List ℕ) (axis : ℕ) (high right : Bool) (total : ℕ) → Given b rates closed cells → axis < b.layout.dims → IsWithin b.layout.cells i
    → is_finer_in b.mesh (cell_across b.mesh (cell_in b.mesh b.leaf i) axis high) ≡ false
    → total ≡ counted right (moves_at b.settings b.field).order (looks_in_row b.layout cells axis (slice_index i axis + cond high 1 0) i)
    → cond (is_closed b.layout closed axis (with_along axis (slice_index i axis + cond high 1 0) i)) 0 (portion total (rate_of (along rates axis) (donor_of right)) rates.denominator) ≡ passing right (pair_of b i axis high)
unfolding face_pair
pays_right b rates closed cells i axis high right total given used w free counts =
    let rate : ℕ = rate_of (along rates axis) (donor_of right) in
    let order : ℕ = (moves_at b.settings b.field).order in
    let field_rates : FaceRates = rates_at b.settings b.field axis b.leaf.level in
    let looks : Looks = looks_at b.settings b.mesh b.field (cell_in b.mesh b.leaf i) axis high in
    let seen : total ≡ counted right order looks = counts ∙ sym (ap (counted right order) (rows_are_looks b cells i axis high given.sound given.has given.sees w used)) in
    let own : portion total rate rates.denominator ≡ passing right (own_pair b.settings b.mesh b.field (cell_in b.mesh b.leaf i) axis high) =
    ap (λ t. portion t rate rates.denominator) seen
    ∙ ap (λ r. portion (counted right order looks) r rates.denominator) (rate_is b rates axis right given.rated used)
    ∙ ap (λ d. portion (counted right order looks) (by_way right field_rates) d) given.rated.denominator
    ∙ pair_counts order right looks field_rates in
    ap (λ (t : Bool). cond t 0 (portion total rate rates.denominator)) (closed_is b closed i axis high (record { sound = given.sound; closes = given.closes; within = w; used = used }))
    ∙ where_own b i axis high right (portion total rate rates.denominator) (cell_across b.mesh (cell_in b.mesh b.leaf i) axis high) free own

-- the total that pays by the first order
first_pays : (b : FieldBlock) (cells : List ℕ) (axis : ℕ) (right : Bool) (x : ℕ) (i : List ℕ) → axis < 3 → axis < b.layout.dims →
    donor_total b.layout (donor_of right) cells axis (with_along axis x i) ≡ paying right (looks_in_row b.layout cells axis x i)
first_pays b cells axis true x i h used = ap (slice_index cells) (row_by b.layout axis (ghost_layers b.layout axis - 1) x (x + 1) i h (below_at (ghost_layers b.layout axis) x (two_layers b.layout axis used)))
first_pays b cells axis false x i h used = ap (slice_index cells) (row_by b.layout axis (ghost_layers b.layout axis - 0) x (x + 2) i h (above_at (ghost_layers b.layout axis) x (two_layers b.layout axis used)))

-- one direction at one face
pub first_way : (b : FieldBlock) (rates : LevelRates) (closed : List Bool) (cells i : List ℕ) (axis : ℕ) (high right : Bool) → Given b rates closed cells → (moves_at b.settings b.field).order ≡ 1 →
    axis < b.layout.dims → IsWithin b.layout.cells i → is_finer_in b.mesh (cell_across b.mesh (cell_in b.mesh b.leaf i) axis high) ≡ false →
    flux_at b.layout (donor_of right) (rate_of (along rates axis) (donor_of right)) rates.denominator closed cells axis (with_along axis (slice_index i axis + cond high 1 0) i) ≡ passing right (pair_of b i axis high)
first_way b rates closed cells i axis high right given order used w free =
    let x : ℕ = slice_index i axis + cond high 1 0 in
    pays_right b rates closed cells i axis high right (donor_total b.layout (donor_of right) cells axis (with_along axis x i)) given used w free
    (first_pays b cells axis right x i (three_axes b axis given.sound used) used ∙ first_counts (moves_at b.settings b.field).order right (looks_in_row b.layout cells axis x i) order)

one_way : (b : FieldBlock) (rates : LevelRates) (closed : List Bool) (cells list i : List ℕ) (axis : ℕ) (high right : Bool) → Given b rates closed cells → (moves_at b.settings b.field).order ≡ 1 →
    AreFluxes b.layout (donor_of right) rates closed cells list → axis < b.layout.dims → IsWithin b.layout.cells i → is_finer_in b.mesh (cell_across b.mesh (cell_in b.mesh b.leaf i) axis high) ≡ false →
    slice_index list (face_of b.layout i axis high) ≡ passing right (pair_of b i axis high)
one_way b rates closed cells list i axis high right given order fluxes used w free =
    fluxes axis (with_along axis (slice_index i axis + cond high 1 0) i) used (face_within b.layout axis high i w (three_axes b axis given.sound used))
    ∙ first_way b rates closed cells i axis high right given order used w free

pub first_order_pairs : FirstOrderPairs
first_order_pairs b rates closed cells right left sound order rated closes has sees rights lefts i axis high used w free =
    let given : Given b rates closed cells = record { sound = sound; rated = rated; closes = closes; has = has; sees = sees } in (
      one_way b rates closed cells right i axis high true given order rights used w free,
      one_way b rates closed cells left i axis high false given order lefts used w free,
    )
