-- The mesh on which tasks compute.
use Rattle.std.specs.Prelude.{◌≡◌, ℕ, ◌<◌, List, [], length}
use Rattle.package_fields.specs.Kernel.{Reacted, nothing}
use Rattle.problem_set.specs.declared.problem.Problem.{Problem}
use Rattle.problem_set.specs.SettingsOf.{settings_of}
use Rattle.block_tree.specs.Blocks.{TreeOfBlocks, leaves}
use Rattle.block_layout.specs.declared.layout.Layout.{Layout}
use Rattle.cycle_kernels.specs.Blocks.{CycleMesh, leaf_at}
use Rattle.cycle_kernels.specs.Laws.{IsCycleMesh}

-- what the kernels of a cycle read of a problem, its tree and the layout of its blocks: they read no totals
abbrev pub mesh_for : Problem → TreeOfBlocks → Layout → (List ℕ → Reacted) → CycleMesh
mesh_for problem tree layout react = record {
  settings = settings_of problem;
  mesh = record {
    shape = tree.shape;
    cells = layout.cells;
    inner = tree.inner;
    leaves = leaves tree;
    totals = [];
  };
  layout = layout;
  react = react;
}

-- and those of tasks that do not react
abbrev pub mesh_in : Problem → TreeOfBlocks → Layout → CycleMesh
mesh_in problem tree layout = mesh_for problem tree layout (λ _. nothing 0)

-- a tree is one of a problem: on its lattice and none too fine, and a layout is that of its blocks
pub record IsTreeOf (problem : Problem) (tree : TreeOfBlocks) (layout : Layout) : Type 0 where
  pub cycle : IsCycleMesh (mesh_in problem tree layout)
  pub shape : tree.shape ≡ problem.shape
  pub levels : (b : ℕ) → b < length (leaves tree) →
      (leaf_at (mesh_in problem tree layout) b).level < problem.levels
