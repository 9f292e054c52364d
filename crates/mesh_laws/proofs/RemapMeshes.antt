-- A mesh that was filled, and one on another balanced tree, are meshes.
use Rattle.std.proofs.Common.{◌≡◌, ℕ, Bool, ap, sym, subst}
use Rattle.std.proofs.Math.Path.{fun_ext}
use Rattle.morton_order.specs.declared.space.Loc.{Loc}
use Rattle.block_tree.specs.Tree.{IsBalanced, IsTree}
use Rattle.block_tree.specs.Leaves.{leaves_of}
use Rattle.block_tree.proofs.InnerList.{inners_are_listed}
use Rattle.mesh_rules.specs.Mesh.{IsMesh, Mesh, filled, is_inner}
use Rattle.mesh_rules.specs.Remesh.{remap}
use Rattle.mesh_laws.specs.RemapLaws.{RemapIsMesh}

-- other totals on the same tree
pub filled_is_mesh : (m : Mesh) (fields : ℕ) (each : ℕ → Loc → ℕ) → IsMesh m → IsMesh (filled m fields each)
filled_is_mesh m fields each mesh = record { shape = mesh.shape; some_cells = mesh.some_cells; tree = mesh.tree; balanced = mesh.balanced; leaves = mesh.leaves }

-- the test of the listed inner nodes is the tree's
inner_is : (m : Mesh) (fields : ℕ) (inner : Loc → Bool) → IsMesh m → IsTree m.shape inner → inner ≡ is_inner (remap m fields inner)
inner_is m fields inner mesh tree = fun_ext (λ l. sym (inners_are_listed m.shape inner mesh.shape tree l))

pub remap_is_mesh : RemapIsMesh
remap_is_mesh m fields inner mesh tree balanced =
    let e = inner_is m fields inner mesh tree in
    record {
      mesh = record {
        shape = mesh.shape;
        some_cells = mesh.some_cells;
        tree = subst (λ (t : Loc → Bool). IsTree m.shape t) e tree;
        balanced = subst (λ (t : Loc → Bool). IsBalanced m.shape t) e balanced;
        leaves = ap (leaves_of m.shape) e;
      };
      nodes = inners_are_listed m.shape inner mesh.shape tree;
    }
