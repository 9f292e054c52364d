-- The lists with which a run opens.
use Rattle.std.proofs.Common.{◌≡◌, ◌∙◌, ℕ, ◌-◌, ◌^◌, ◌≤◌, List, length, ap, arith, subst, sym}
use Rattle.block_layout.specs.declared.layout.Layout.{Layout}
use Rattle.block_tree.specs.Blocks.{TreeOfBlocks, leaves}
use Rattle.problem_set.specs.declared.problem.Problem.{Problem}
use Rattle.problem_set.specs.SettingsOf.{settings_of}
use Rattle.mesh_rules.specs.Mesh.{Mesh}
use Rattle.mesh_rules.specs.Fields.{field_count}
use Rattle.mesh_rules.specs.Fit.{IsMeshOf, sum_of_all}
use Rattle.mesh_rules.specs.Opening.{opening_mesh, opening_state}
use Rattle.mesh_rules.specs.Cycle.{State}
use Rattle.mesh_rules.specs.Run.{running, start_of}
use Rattle.dense_model.specs.RunFiles.{run_of}
use Rattle.dense_mesh.specs.Meshes.{IsMeshIn, mesh_of}
use Rattle.dense_remesh.specs.Lists.{HaveLeafLists}
use Rattle.dense_model.proofs.Runs.{opens_running, reached_bound, reached_mesh}

-- few leaves, by the mesh on them
few_leaves : (p : Problem) (t : TreeOfBlocks) (lists : List (List (List ℕ))) → mesh_of t p.cells lists ≡ opening_mesh (settings_of p) → length (leaves t) ≤ 65536 → length (opening_mesh (settings_of p)).leaves ≤ 65536
few_leaves p t lists mesh few = subst (λ (m : Mesh). length m.leaves ≤ 65536) mesh few

pub opened_lists : (p : Problem) (t : TreeOfBlocks) (l : Layout) (lists : List (List (List ℕ))) → l.dims ≡ p.shape.dims → l.cells ≡ p.cells → mesh_of t p.cells lists ≡ opening_mesh (settings_of p)
    → HaveLeafLists (field_count (settings_of p)) (leaves t) lists → length (leaves t) ≤ 65536 → IsMeshIn (settings_of p) t l lists
opened_lists p t l lists dims cells mesh has few =
    let q = settings_of p in
    let runs = opens_running q (few_leaves p t lists mesh few) in
    record {
      dims = dims;
      cells = cells;
      fields = has.fields;
      leaf_lists = has.leaves;
      mesh = subst (IsMeshOf q) (sym mesh) (reached_mesh p 0 (start_of q (opening_state q)) runs);
      bound = subst (λ (m : Mesh). sum_of_all q m ≤ 2 ^ 62 - 1) (sym mesh) (reached_bound p 0 (start_of q (opening_state q)) (omega arith) runs);
    }

-- so the run starts
pub opened_runs : (p : Problem) (t : TreeOfBlocks) (s : State) (lists : List (List (List ℕ))) → mesh_of t p.cells lists ≡ s.mesh → s ≡ opening_state (settings_of p) → length (leaves t) ≤ 65536
    → run_of (settings_of p) 0 ≡ running (start_of (settings_of p) (opening_state (settings_of p)))
opened_runs p t s lists mesh is few = opens_running (settings_of p) (few_leaves p t lists (mesh ∙ ap (λ (x : State). x.mesh) is) few)
