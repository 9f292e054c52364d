-- The kernels of a cycle meet what the machine of sparse buffers asks of kernels.
use Rattle.std.specs.Prelude.{◌≡◌, ℕ, List}
use Rattle.package_fields.specs.Kernel.{Reacted}
use Rattle.problem_set.specs.declared.problem.Problem.{Problem}
use Rattle.problem_set.specs.SettingsOf.{settings_of}
use Rattle.mesh_rules.specs.Fit.{IsMeshOf}
use Rattle.mesh_rules.specs.Mesh.{Mesh}
use Rattle.block_layout.specs.declared.layout.Layout.{Layout}
use Rattle.sparse_rounds.specs.Kernels.{AreKernels}
use Rattle.cycle_kernels.specs.Blocks.{CycleMesh}
use Rattle.cycle_kernels.specs.Kernels.{kernels_of}
use Rattle.cycle_kernels.specs.Laws.{IsCycleMesh}

-- on every mesh of a cycle
abbrev pub KernelsMeetTheLaws : Type 0
KernelsMeetTheLaws = (w : CycleMesh) → IsCycleMesh w → AreKernels (kernels_of w)

-- each mesh of a problem is the mesh of a cycle, with the layout of the problem's blocks and any reaction
abbrev pub MeshesAreOfCycles : Type 0
MeshesAreOfCycles = (p : Problem) (m : Mesh) (l : Layout) (react : List ℕ → Reacted) → IsMeshOf (settings_of p) m →
    l.dims ≡ p.shape.dims → l.cells ≡ p.cells →
    IsCycleMesh (record { settings = settings_of p; mesh = m; layout = l; react = react })
