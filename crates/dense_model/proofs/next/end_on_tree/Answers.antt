use Rattle.std.proofs.Common.{◌≡◌, ◌∙◌, ℕ, ◌-◌, ◌^◌, ◌≤◌, List, ap, length, subst, sym}
use Rattle.block_tree.specs.declared.tags.Tag.{Tag}
use Rattle.block_tree.specs.Blocks.{tree_with}
use Rattle.package_fields.specs.declared.flow.Flow.{Flow}
use Rattle.problem_set.specs.SettingsOf.{settings_of}
use Rattle.mesh_rules.specs.Sums.{table}
use Rattle.mesh_rules.specs.Fields.{field_count}
use Rattle.mesh_rules.specs.Fit.{sum_of_all}
use Rattle.mesh_rules.specs.Reaction.{kernel_of}
use Rattle.mesh_rules.specs.Remesh.{next_tree}
use Rattle.mesh_rules.specs.Cycle.{State, drop_of, flow_of, settled}
use Rattle.mesh_rules.specs.Run.{remeshed, running}
use Rattle.dense_mesh.proofs.Tables.{table_length}
use Rattle.dense_cycle.specs.Held.{state_of}
use Rattle.dense_model.proofs.Moved.{following, moved_lists, moves_there}
use Rattle.dense_model.proofs.Runs.{cycle_moves}
use Rattle.dense_model.proofs.next.end_on_tree.Goals as goal

pub returns-clause-next : goal.returns-clause-next
returns-clause-next c =
    let p = c.args.problem.now in
    let q = settings_of p in
    let k = kernel_of q in
    let t = c.args.tree.now in
    let s : State = state_of t p.cells c.args.before.now in
    let next = c.in_ok-next.next in
    let state = c.in_ok-state.state in
    let of = c.requires.fit.mesh in
    let tree : next ≡ tree_with s.mesh.shape (following q s) =
    c.in_ok-next.ensures.next ∙ ap (λ (ts : List Tag). tree_with s.mesh.shape (next_tree q s.mesh ts)) (c.as_slice.ensures.value ∙ c.requires.settled.tags) in
    let there = moves_there p s (state_of t p.cells c.args.settled.state) next of c.requires.settled.state tree c.len.ensures.kept.few in
    let state_is : state_of next p.cells state ≡ remeshed q (settled q k s) (following q s) = c.in_ok-state.ensures.state ∙ there.state in
    let bound = subst (λ (x : State). sum_of_all q x.mesh ≤ 2 ^ 62 - 1) c.requires.settled.state c.requires.settled.held.lists.bound in
    record {
      held = record {
        lists = moved_lists p s next c.args.layout.now state.held.lists of c.requires.settled.held.lists.dims c.requires.settled.held.lists.cells c.in_ok-state.ensures.lists there.few (ap (λ (x : State). x.mesh) state_is) bound;
        slots = c.in_ok-state.ensures.slots;
      };
      flow_count = ap (λ (x : List Flow). length x) c.requires.settled.flows ∙ table_length (field_count q) (flow_of q k s);
      drop_count = ap (λ (x : List ℕ). length x) c.requires.settled.drops ∙ table_length (field_count q) (drop_of q k s);
      reached = cycle_moves q c.args.cycle s c.requires.due there.few
          ∙ ap (λ (x : State). running (record { state = x; flows = table (field_count q) (flow_of q k s); drops = table (field_count q) (drop_of q k s) })) (sym state_is)
          ∙ ap (λ (x : List Flow). running (record { state = state_of next p.cells state; flows = x; drops = table (field_count q) (drop_of q k s) })) (sym c.requires.settled.flows)
          ∙ ap (λ (x : List ℕ). running (record { state = state_of next p.cells state; flows = c.args.settled.flows; drops = x })) (sym c.requires.settled.drops);
    }
