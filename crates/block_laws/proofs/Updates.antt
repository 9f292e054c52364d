-- The update of a block by its pairs is the mesh's stage.
use Rattle.std.proofs.Common.{◌≡◌, ℕ, ◌+◌, ◌-◌, true, false, List, ap, ◌∙◌, slice_index}
use Rattle.mesh_rules.specs.Sums.{sum_to}
use Rattle.mesh_rules.specs.Stage.{gain, loss}
use Rattle.mesh_rules.specs.Mesh.{stored}
use Rattle.mesh_laws.proofs.Totals.{sum_to-same}
use Rattle.block_layout.specs.Indices.{IsWithin}
use Rattle.block_layout.specs.Faces.{face_of}
use Rattle.block_geometry.specs.Blocks.{FieldBlock, IsFieldBlock, cell_in, own_place}
use Rattle.block_geometry.specs.Contents.{HasPairs, pair_of}
use Rattle.block_laws.specs.Update.{UpdateIsStage, gained, lost}

both : (a b c d : ℕ) → a ≡ c → b ≡ d → a + b ≡ c + d
both a b c d e f = cc

gains_are : (b : FieldBlock) (right left i : List ℕ) → IsFieldBlock b → HasPairs b right left → IsWithin b.layout.cells i → gained b.layout right left i ≡ gain b.settings b.mesh b.field (cell_in b.mesh b.leaf i)
gains_are b right left i sound pairs w =
    sum_to-same b.layout.dims (λ axis. slice_index right (face_of b.layout i axis false) + slice_index left (face_of b.layout i axis true)) (λ axis. (pair_of b i axis false).right + (pair_of b i axis true).left)
    (λ axis used. both (slice_index right (face_of b.layout i axis false)) (slice_index left (face_of b.layout i axis true)) (pair_of b i axis false).right (pair_of b i axis true).left (pairs i axis false used w).0 (pairs i axis true used w).1)
    ∙ ap (λ n. sum_to n (λ axis. (pair_of b i axis false).right + (pair_of b i axis true).left)) sound.layout.dims

losses_are : (b : FieldBlock) (right left i : List ℕ) → IsFieldBlock b → HasPairs b right left → IsWithin b.layout.cells i → lost b.layout right left i ≡ loss b.settings b.mesh b.field (cell_in b.mesh b.leaf i)
losses_are b right left i sound pairs w =
    sum_to-same b.layout.dims (λ axis. slice_index left (face_of b.layout i axis false) + slice_index right (face_of b.layout i axis true)) (λ axis. (pair_of b i axis false).left + (pair_of b i axis true).right)
    (λ axis used. both (slice_index left (face_of b.layout i axis false)) (slice_index right (face_of b.layout i axis true)) (pair_of b i axis false).left (pair_of b i axis true).right (pairs i axis false used w).1 (pairs i axis true used w).0)
    ∙ ap (λ n. sum_to n (λ axis. (pair_of b i axis false).left + (pair_of b i axis true).right)) sound.layout.dims

changed : (a b c d e f : ℕ) → a ≡ d → b ≡ e → c ≡ f → a + b - c ≡ d + e - f
changed a b c d e f p q r = cc

pub update_is_stage : UpdateIsStage
update_is_stage b cells right left i sound has pairs w =
    let g = gains_are b right left i sound pairs w in
    let l = losses_are b right left i sound pairs w in
    record {
      gains = g;
      losses = l;
      staged = changed (slice_index cells (own_place b.layout i)) (gained b.layout right left i) (lost b.layout right left i) (stored b.mesh b.field (cell_in b.mesh b.leaf i)) (gain b.settings b.mesh b.field (cell_in b.mesh b.leaf i)) (loss b.settings b.mesh b.field (cell_in b.mesh b.leaf i)) (has i w) g l;
    }
