-- Lists in which a kernel has changed each cell.
use Rattle.std.proofs.Common.{◌≡◌, ◌∙◌, ℕ, List, ap, arith}
use Rattle.std.specs.Prelude.{slice_index}
use Rattle.morton_order.specs.declared.space.Loc.{Loc}
use Rattle.package_fields.specs.Kernel.{KernelLaws, Reacted}
use Rattle.block_tree.specs.Blocks.{TreeOfBlocks}
use Rattle.problem_set.specs.Settings.{Settings}
use Rattle.mesh_rules.specs.Mesh.{Mesh}
use Rattle.mesh_rules.specs.Fields.{field_count}
use Rattle.mesh_rules.specs.Reaction.{react_mesh, reacted_cell}
use Rattle.block_layout.specs.declared.layout.Layout.{Layout}
use Rattle.dense_mesh.specs.Meshes.{IsMeshIn, field_lists, mesh_of}
use Rattle.dense_cycle.proofs.Bounds.{reacted_sum}
use Rattle.dense_cycle.proofs.Lists.{filled_in}

-- what a kernel makes of each cell
abbrev pub made_each : (List ℕ → Reacted) → ℕ → Mesh → ℕ → Loc → ℕ
made_each react n m f at = slice_index (reacted_cell react n m at).totals f

-- they are the mesh after the reaction
pub record ReactedLists (q : Settings) (react : List ℕ → Reacted) (t : TreeOfBlocks) (l : Layout) (lists new : List (List (List ℕ))) : Type 0 where
  pub mesh : mesh_of t q.cells new ≡ react_mesh react (field_count q) (mesh_of t q.cells lists)
  pub is_mesh : IsMeshIn q t l new

pub reacted_lists : (q : Settings) (react : List ℕ → Reacted) (t : TreeOfBlocks) (l : Layout) (lists seen new : List (List (List ℕ))) → IsMeshIn q t l lists → KernelLaws (field_count q) react → seen ≡ lists
    → new ≡ field_lists (mesh_of t q.cells seen) (field_count q) (made_each react (field_count q) (mesh_of t q.cells seen)) → ReactedLists q react t l lists new
reacted_lists q react t l lists seen new fit laws same is =
    let n = field_count q in
    let m : Mesh = mesh_of t q.cells lists in
    let filled = filled_in q t l lists new (made_each react n m) fit (is ∙ ap (λ (v : List (List (List ℕ))). field_lists (mesh_of t q.cells v) n (made_each react n (mesh_of t q.cells v))) same) in
    record {
      mesh = filled.mesh;
      is_mesh = filled.fits (omega (arith, reacted_sum q react m fit.mesh.mesh laws, fit.bound));
    }
