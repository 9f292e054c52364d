-- The meshes whose headings a problem and a number of leaves determine.
use Rattle.std.specs.Prelude.{◌≡◌, ℕ, length}
use Rattle.problem_set.specs.Settings.{Settings}
use Rattle.mesh_rules.specs.Mesh.{Mesh}

-- a mesh over a problem's root blocks, in blocks of its cells, with so many leaves
pub record HasOutline (p : Settings) (leaves : ℕ) (m : Mesh) : Type 0 where
  pub shape : m.shape ≡ p.shape
  pub cells : m.cells ≡ p.cells
  pub count : length m.leaves ≡ leaves
