-- The kernels of a cycle meet what the machine of sparse buffers asks of kernels.
use Rattle.std.specs.Prelude.{ℕ, ◌<◌, ◌≤◌}
use Rattle.std.specs.Option.{ForSome}
use Rattle.mesh_rules.specs.Mesh.{IsMesh}
use Rattle.problem_set.specs.SoundProblem.{AreFields}
use Rattle.block_geometry.specs.Blocks.{IsLayoutOf}
use Rattle.cycle_kernels.specs.Blocks.{CycleMesh}
use Rattle.cycle_kernels.specs.Kernels.{kernels_of}

-- the mesh of a cycle: the settings are sound, and the layout is that of the mesh's blocks
pub record IsCycleMesh (w : CycleMesh) : Type 0 where
  pub mesh : IsMesh w.mesh
  pub layout : IsLayoutOf w.mesh w.layout
  pub denominator : 1 ≤ w.settings.denominator
  pub packs : ForSome w.settings.pack_size (λ n. 1 ≤ n)
  pub fields : AreFields w.settings.fields w.settings.moves

abbrev pub BlocksAreOwned : Type 0
BlocksAreOwned = (w : CycleMesh) (b : ℕ) → IsCycleMesh w → (kernels_of w).owner b < (kernels_of w).lists
