-- Lists that have what each cell gives are a mesh of the problem on the same tree.
use Rattle.std.proofs.Common.{◌≡◌, ℕ, ◌-◌, ◌<◌, ◌≤◌, ◌^◌, List, [], length, ap, subst, sym, ◌∙◌}
use Rattle.std.specs.List.{slice_index_or}
use Rattle.std.proofs.lemmas.List.{length-map}
use Rattle.morton_order.specs.declared.space.Loc.{Loc}
use Rattle.block_tree.specs.Blocks.{TreeOfBlocks, leaves}
use Rattle.problem_set.specs.Settings.{Settings}
use Rattle.mesh_rules.specs.Sums.{table}
use Rattle.mesh_rules.specs.Mesh.{Mesh, block_size, cell_at, filled}
use Rattle.mesh_rules.specs.Fields.{field_count}
use Rattle.mesh_rules.specs.Fit.{IsMeshOf, sum_of_all}
use Rattle.run_laws.proofs.RunTrees.{mesh_of_filled}
use Rattle.block_layout.specs.declared.layout.Layout.{Layout}
use Rattle.dense_mesh.specs.Meshes.{IsMeshIn, field_list, field_lists, mesh_of}
use Rattle.dense_mesh.proofs.Lists.{field_lists_are_meshes}
use Rattle.dense_mesh.proofs.Tables.{table_at, table_length}

-- what new lists are
pub record Filled (q : Settings) (t : TreeOfBlocks) (l : Layout) (lists new : List (List (List ℕ))) (each : ℕ → Loc → ℕ) : Type 0 where
  pub mesh : mesh_of t q.cells new ≡ filled (mesh_of t q.cells lists) (field_count q) each
  pub fits : sum_of_all q (filled (mesh_of t q.cells lists) (field_count q) each) ≤ 2 ^ 62 - 1 → IsMeshIn q t l new

pub filled_in : (q : Settings) (t : TreeOfBlocks) (l : Layout) (lists new : List (List (List ℕ))) (each : ℕ → Loc → ℕ) → IsMeshIn q t l lists → new ≡ field_lists (mesh_of t q.cells lists) (field_count q) each → Filled q t l lists new each
filled_in q t l lists new each fit is =
    let m : Mesh = mesh_of t q.cells lists in
    let n = field_count q in
    let mesh : mesh_of t q.cells new ≡ filled m n each = ap (mesh_of t q.cells) is ∙ field_lists_are_meshes t q.cells lists n each in
    let of = fit.mesh in
    let one : (f : ℕ) → f < n → length (slice_index_or (field_lists m n each) f []) ≡ length (leaves t) = λ f inside.
    ap (λ (v : List (List ℕ)). length v) (table_at n (λ k. field_list m (each k)) f [] inside)
    ∙ length-map (leaves t) (λ at. table (block_size m) (λ place. each f (cell_at m at place))) in
    record {
      mesh = mesh;
      fits = λ bound. record {
        dims = fit.dims;
        cells = fit.cells;
        fields = ap (λ (v : List (List (List ℕ))). length v) is ∙ table_length n (λ k. field_list m (each k));
        leaf_lists = λ f inside. ap (λ (v : List (List (List ℕ))). length (slice_index_or v f [])) is ∙ one f inside;
        mesh = subst (IsMeshOf q) (sym mesh) (mesh_of_filled q m each of.mesh of.shape of.cells of.few of.coarse);
        bound = subst (λ (x : Mesh). sum_of_all q x ≤ 2 ^ 62 - 1) (sym mesh) bound;
      };
    }
