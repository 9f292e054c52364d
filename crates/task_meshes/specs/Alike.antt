-- What exchanges read of a mesh.
use Rattle.std.specs.Prelude.{◌≡◌, ℕ}
use Rattle.problem_set.specs.declared.problem.Problem.{Problem}
use Rattle.block_tree.specs.Blocks.{TreeOfBlocks}
use Rattle.mesh_rules.specs.Due.{flux_letters, ghost_letters}
use Rattle.block_layout.specs.declared.layout.Layout.{Layout}
use Rattle.cycle_kernels.specs.Blocks.{CycleMesh, enters_above, may_lack, owner_of}
use Rattle.cycle_kernels.specs.Laws.{IsCycleMesh}
use Rattle.cycle_kernels.specs.Letters.{ghosts_by, no_part, region_sent}
use Rattle.cycle_kernels.specs.Pairs.{corrected_by, sums_sent}
use Rattle.task_meshes.specs.Meshes.{IsMeshFor, mesh_for}

-- exchanges on two meshes are the same
pub record ReadAlike (w v : CycleMesh) : Type 0 where
  pub cycle : IsCycleMesh w → IsCycleMesh v
  pub owner : owner_of w ≡ owner_of v
  pub ghosts_due : ghost_letters w.mesh ≡ ghost_letters v.mesh
  pub fluxes_due : flux_letters w.mesh ≡ flux_letters v.mesh
  pub no_part : no_part w ≡ no_part v
  pub region : region_sent w ≡ region_sent v
  pub ghosts : ghosts_by w ≡ ghosts_by v
  pub sums : sums_sent w ≡ sums_sent v
  pub corrected : corrected_by w ≡ corrected_by v
  pub lacks : may_lack w ≡ may_lack v
  pub enters : (threshold : ℕ) → enters_above threshold w ≡ enters_above threshold v

abbrev pub MeshesAreAlike : Type 0
MeshesAreAlike = (problem : Problem) (tree : TreeOfBlocks) (layout : Layout) (w : CycleMesh) →
    IsMeshFor problem tree layout w → ReadAlike w (mesh_for problem tree layout)
