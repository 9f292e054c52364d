-- What the update leaves is the mesh's stage.
use Rattle.std.proofs.Common.{◌≡◌, ℕ, zero, suc, ◌+◌, ◌-◌, refl, ap, ◌∙◌, slice_index}
use Rattle.mesh_rules.specs.Sums.{sum_to}
use Rattle.block_geometry.specs.Blocks.{own_place}
use Rattle.transport_kernel.specs.Update.{gain, gain_along, listed, loss, loss_along, sum_axes}
use Rattle.block_laws.specs.Update.{gained, lost}
use Rattle.block_laws.proofs.Updates.{update_is_stage}
use Rattle.kernel_laws.specs.Updated.{UpdatedIsStaged}

-- two ways to write a sum over the axes
axes_sum : (n : ℕ) (each : ℕ → ℕ) → sum_axes n each ≡ sum_to n each
axes_sum zero each = refl
axes_sum (suc n) each = ap (λ t. t + each n) (axes_sum n each)

changed : (a b c d e : ℕ) → b ≡ d → c ≡ e → a + b - c ≡ a + d - e
changed a b c d e p q = cc

pub updated_is_staged : UpdatedIsStaged
updated_is_staged b cells right left new sound has pairs passed i w =
    passed i w
    ∙ changed (slice_index cells (own_place b.layout i)) (gain b.layout.dims (listed b.layout right) (listed b.layout left) i) (loss b.layout.dims (listed b.layout right) (listed b.layout left) i) (gained b.layout right left i) (lost b.layout right left i)
    (axes_sum b.layout.dims (gain_along (listed b.layout right) (listed b.layout left) i)) (axes_sum b.layout.dims (loss_along (listed b.layout right) (listed b.layout left) i))
    ∙ (update_is_stage b cells right left i sound has pairs w).staged
