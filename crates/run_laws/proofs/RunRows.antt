-- Each row of the history of a run balances.
use Rattle.std.proofs.Common.{◌≡◌, ℕ, ◌<◌, List, refl, sym, ap, ◌∙◌, subst, arith}
use Rattle.package_fields.specs.declared.flow.Flow.{Flow}
use Rattle.package_fields.specs.Flow.{no_flow}
use Rattle.package_fields.specs.Kernel.{KernelLaws, Reacted}
use Rattle.problem_set.specs.declared.problem.Problem.{Problem}
use Rattle.problem_set.specs.SettingsOf.{settings_of}
use Rattle.mesh_rules.specs.Mesh.{total_of}
use Rattle.mesh_rules.specs.Fields.{field_count}
use Rattle.mesh_rules.specs.Remesh.{next_tree}
use Rattle.mesh_rules.specs.Cycle.{State, checked, drop_of, flow_of, settled, tags_of}
use Rattle.mesh_rules.specs.Run.{Reached, last_drop, last_flow, reached, remeshed, running}
use Rattle.mesh_rules.specs.Fit.{IsMeshOf}
use Rattle.mesh_laws.proofs.Remaps.{remap_keeps_totals}
use Rattle.run_laws.specs.HistoryLaws.{HistoryBalances, RowBalances}
use Rattle.run_laws.proofs.CycleTotals.{cycles_balance}
use Rattle.run_laws.proofs.RunTrees.{LeadsTo, comes_from, moves_on, next_tree_is, run_stands, settled_is, stays_there, table_at}

-- a row from what the cycle recorded
row_of : (p : Problem) (react : List ℕ → Reacted) (f : ℕ) (s after : State) → KernelLaws (field_count (settings_of p)) react → f < field_count (settings_of p) → IsMeshOf (settings_of p) s.mesh
    → total_of after.mesh f ≡ total_of (checked (settings_of p) react s).mesh f
    → RowBalances s.mesh after.mesh f (last_flow (reached (settings_of p) react s after) f) (last_drop (reached (settings_of p) react s after) f)
row_of p react f s after laws inside of same =
    let q = settings_of p in
    let flow = table_at (field_count q) (flow_of q react s) f no_flow inside in
    let drop = table_at (field_count q) (drop_of q react s) f 0 inside in
    omega (
      arith,
      cycles_balance p react s f laws of inside,
      same,
      ap (λ (x : Flow). x.inflow) flow,
      ap (λ (x : Flow). x.outflow) flow,
      ap (λ (x : Flow). x.made) flow,
      ap (λ (x : Flow). x.used) flow,
      drop,
    )

row_after : (p : Problem) (react : List ℕ → Reacted) (f : ℕ) (s : State) (r : Reached) → KernelLaws (field_count (settings_of p)) react → f < field_count (settings_of p) → IsMeshOf (settings_of p) s.mesh → LeadsTo (settings_of p) react s r
    → RowBalances s.mesh r.state.mesh f (last_flow r f) (last_drop r f)
row_after p react f s r laws inside of (stays_there e) =
    subst (λ (x : Reached). RowBalances s.mesh x.state.mesh f (last_flow x f) (last_drop x f)) (sym e) (row_of p react f s (settled (settings_of p) react s) laws inside of refl)
row_after p react f s r laws inside of (moves_on few e) =
    let q = settings_of p in
    let is = settled_is p react s of in
    let tree = next_tree_is p react s of (settled q react s).mesh.shape is.shape in
    subst (λ (x : Reached). RowBalances s.mesh x.state.mesh f (last_flow x f) (last_drop x f)) (sym e)
    (row_of p react f s (remeshed q (settled q react s) (next_tree q s.mesh (tags_of q react s))) laws inside of (remap_keeps_totals (settled q react s).mesh (field_count q) f (next_tree q s.mesh (tags_of q react s)) is.mesh tree.0 inside))

same_run : (a b : Reached) → running a ≡ running b → a ≡ b
same_run a b e = cc

pub history_balances : HistoryBalances
history_balances p react cycle f before after laws inside runs next =
    let from = comes_from (settings_of p) react cycle after next in
    let same = same_run from.before before (sym from.runs ∙ runs) in
    let row = row_after p react f from.before.state after laws inside (run_stands p react cycle from.before from.runs) from.leads in
    subst (λ (x : Reached). RowBalances x.state.mesh after.state.mesh f (last_flow after f) (last_drop after f)) same row
