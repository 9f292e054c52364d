-- The fluxes of the second order are the mesh's own pairs.
use Rattle.std.proofs.Common.{◌≡◌, ℕ, ◌+◌, ◌<◌, Bool, true, false, cond, List, arith, ap, sym, ◌∙◌, slice_index}
use Rattle.mesh_rules.specs.Fields.{moves_at}
use Rattle.mesh_rules.specs.Faces.{cell_across}
use Rattle.block_layout.specs.Indices.{IsWithin, with_along}
use Rattle.block_layout.specs.Faces.{face_of}
use Rattle.block_geometry.specs.Blocks.{FieldBlock, cell_in, row_place}
use Rattle.block_geometry.specs.Contents.{is_finer_in, looks_in_row, pair_of}
use Rattle.block_geometry.proofs.Seen.{three_axes}
use Rattle.upwind_fluxes.specs.declared.rates.LevelRates.{LevelRates}
use Rattle.stage_rules.specs.Rules.{limited}
use Rattle.slope_kernel.specs.Slopes.{AreSlopeFluxes, donor_at, total_beside}
use Rattle.block_laws.proofs.OwnPairs.{Given, counted, donor_of, face_within, passing, pays_right, row_by}
use Rattle.kernel_laws.specs.Slopes.{SecondOrderPairs}

-- the four totals at a face stand in the row
total_is : (b : FieldBlock) (cells : List ℕ) (axis k x y : ℕ) (i : List ℕ) → axis < 3 → k + x ≡ y → total_beside b.layout cells axis k (with_along axis x i) ≡ slice_index cells (row_place b.layout axis y i)
total_is b cells axis k x y i h e = ap (slice_index cells) (row_by b.layout axis k x y i h e)

limited_same : (f : ℕ → ℕ → ℕ → ℕ) (a b c x y z : ℕ) → a ≡ x → b ≡ y → c ≡ z → f a b c ≡ f x y z
limited_same f a b c x y z p q r = cc

second_counts : (b : FieldBlock) (cells : List ℕ) (axis : ℕ) (right : Bool) (x : ℕ) (i : List ℕ) → axis < 3 → donor_at b.layout (donor_of right) cells axis (with_along axis x i) ≡ counted right 2 (looks_in_row b.layout cells axis x i)
second_counts b cells axis true x i h =
    limited_same limited (total_beside b.layout cells axis 0 (with_along axis x i)) (total_beside b.layout cells axis 1 (with_along axis x i)) (total_beside b.layout cells axis 2 (with_along axis x i))
    (slice_index cells (row_place b.layout axis x i)) (slice_index cells (row_place b.layout axis (x + 1) i)) (slice_index cells (row_place b.layout axis (x + 2) i))
    (total_is b cells axis 0 x x i h (omega arith)) (total_is b cells axis 1 x (x + 1) i h (omega arith)) (total_is b cells axis 2 x (x + 2) i h (omega arith))
second_counts b cells axis false x i h =
    limited_same limited (total_beside b.layout cells axis 3 (with_along axis x i)) (total_beside b.layout cells axis 2 (with_along axis x i)) (total_beside b.layout cells axis 1 (with_along axis x i))
    (slice_index cells (row_place b.layout axis (x + 3) i)) (slice_index cells (row_place b.layout axis (x + 2) i)) (slice_index cells (row_place b.layout axis (x + 1) i))
    (total_is b cells axis 3 x (x + 3) i h (omega arith)) (total_is b cells axis 2 x (x + 2) i h (omega arith)) (total_is b cells axis 1 x (x + 1) i h (omega arith))

one_way : (b : FieldBlock) (rates : LevelRates) (closed : List Bool) (cells list i : List ℕ) (axis : ℕ) (high right : Bool) → Given b rates closed cells → (moves_at b.settings b.field).order ≡ 2 →
    AreSlopeFluxes b.layout (donor_of right) rates closed cells list → axis < b.layout.dims → IsWithin b.layout.cells i → is_finer_in b.mesh (cell_across b.mesh (cell_in b.mesh b.leaf i) axis high) ≡ false →
    slice_index list (face_of b.layout i axis high) ≡ passing right (pair_of b i axis high)
one_way b rates closed cells list i axis high right given order fluxes used w free =
    let h = three_axes b axis given.sound used in
    let x : ℕ = slice_index i axis + cond high 1 0 in
    fluxes axis (with_along axis x i) used (face_within b.layout axis high i w h)
    ∙ pays_right b rates closed cells i axis high right (donor_at b.layout (donor_of right) cells axis (with_along axis x i)) given used w free
    (second_counts b cells axis right x i h ∙ sym (ap (λ o. counted right o (looks_in_row b.layout cells axis x i)) order))

pub second_order_pairs : SecondOrderPairs
second_order_pairs b rates closed cells right left sound order rated closes has sees rights lefts i axis high used w free =
    let given : Given b rates closed cells = record { sound = sound; rated = rated; closes = closes; has = has; sees = sees } in (
      one_way b rates closed cells right i axis high true given order rights used w free,
      one_way b rates closed cells left i axis high false given order lefts used w free,
    )
