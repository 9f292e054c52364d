-- The mesh of a cycle that a problem, a tree and a layout are of.
use Rattle.std.specs.Prelude.{◌≡◌, ℕ, List, [], length}
use Rattle.package_fields.specs.Kernel.{Reacted, nothing}
use Rattle.problem_set.specs.declared.problem.Problem.{Problem}
use Rattle.problem_set.specs.SettingsOf.{settings_of}
use Rattle.block_tree.specs.Blocks.{TreeOfBlocks, leaves}
use Rattle.mesh_rules.specs.Mesh.{Mesh}
use Rattle.block_layout.specs.declared.layout.Layout.{Layout}
use Rattle.cycle_kernels.specs.Blocks.{CycleMesh}
use Rattle.task_meshes.specs.declared.mesh.TaskMesh.{TaskMesh}

-- the mesh of a tree, without totals
abbrev pub mesh_on : TreeOfBlocks → Layout → Mesh
mesh_on t l = record { shape = t.shape; cells = l.cells; inner = t.inner; leaves = leaves t; totals = [] }

-- what tasks read of a cycle's mesh, with what a kernel makes of a cell: they read no totals
abbrev pub mesh_with : Problem → TreeOfBlocks → Layout → (List ℕ → Reacted) → CycleMesh
mesh_with p t l react = record { settings = settings_of p; mesh = mesh_on t l; layout = l; react = react }

-- and what those read of it that do not react
abbrev pub mesh_for : Problem → TreeOfBlocks → Layout → CycleMesh
mesh_for p t l = mesh_with p t l (λ _. nothing 0)

abbrev pub mesh_of : TaskMesh → CycleMesh
mesh_of m = mesh_for m.problem.now m.tree.now m.layout.now

-- how many leaves there are
abbrev pub leaf_count : TaskMesh → ℕ
leaf_count m = length (leaves m.tree.now)

-- a mesh of a cycle of a problem, on a tree, in blocks of a layout
pub record IsMeshFor (p : Problem) (t : TreeOfBlocks) (l : Layout) (w : CycleMesh) : Type 0 where
  pub settings : w.settings ≡ settings_of p
  pub shape : w.mesh.shape ≡ t.shape
  pub cells : w.mesh.cells ≡ l.cells
  pub inner : w.mesh.inner ≡ t.inner
  pub leaf_list : w.mesh.leaves ≡ leaves t
  pub layout : w.layout ≡ l
