-- A run on the next tree.
use Rattle.std.proofs.Common.{◌≡◌, ◌∙◌, ℕ, ◌-◌, ◌^◌, ◌≤◌, Bool, false, None, List, length, ap, arith, subst, sym}
use Rattle.morton_order.specs.declared.space.Loc.{Loc}
use Rattle.morton_order.specs.declared.space.Shape.{Shape}
use Rattle.block_layout.specs.declared.layout.Layout.{Layout}
use Rattle.block_tree.specs.Blocks.{TreeOfBlocks, leaves, tree_with}
use Rattle.block_tree.specs.Leaves.{inner_of, leaves_of}
use Rattle.block_tree.specs.Tree.{IsTree, is_listed}
use Rattle.block_tree.proofs.InnerList.{inner_test}
use Rattle.problem_set.specs.Settings.{Settings}
use Rattle.problem_set.specs.declared.problem.Problem.{Problem}
use Rattle.problem_set.specs.SettingsOf.{settings_of}
use Rattle.package_fields.specs.declared.flow.Flow.{Flow}
use Rattle.mesh_rules.specs.Mesh.{Mesh, total_of}
use Rattle.mesh_rules.specs.Fields.{field_count}
use Rattle.mesh_rules.specs.Mask.{carried_mask}
use Rattle.mesh_rules.specs.Fit.{IsMeshOf, sum_of_all}
use Rattle.mesh_rules.specs.Reaction.{kernel_of}
use Rattle.mesh_rules.specs.Remesh.{carried_counters, next_tree, remap, remapped}
use Rattle.mesh_rules.specs.Sums.{table}
use Rattle.mesh_rules.specs.Cycle.{State, drop_of, flow_of, settled, tags_of}
use Rattle.mesh_rules.specs.Run.{leaf_limit, remeshed, remeshes_at, running}
use Rattle.mesh_laws.proofs.Remaps.{remap_keeps_totals}
use Rattle.run_laws.proofs.Inflows.{sum_to_le}
use Rattle.run_laws.proofs.RunTrees.{next_tree_is, remeshed_is, settled_is}
use Rattle.dense_mesh.specs.Meshes.{IsMeshIn, mesh_of}
use Rattle.dense_remesh.specs.Lists.{HaveLeafLists}
use Rattle.dense_mesh.proofs.Tables.{table_length}
use Rattle.dense_cycle.specs.declared.settling.Settled.{Settled}
use Rattle.dense_cycle.specs.declared.state.DenseState.{DenseState}
use Rattle.dense_cycle.specs.Held.{state_of}
use Rattle.dense_model.specs.Next.{IsNextCycle, IsSettled, state_on}
use Rattle.dense_model.proofs.Runs.{cycle_stays}

-- a state on a tree, by its inner nodes and its leaves
on_next : (q : Settings) (x : State) (next : TreeOfBlocks) (inner : Loc → Bool) → next.inner ≡ inner_of x.mesh.shape inner → leaves next ≡ leaves_of x.mesh.shape inner → state_on q x next ≡ remeshed q x inner
on_next q x next inner nodes places =
    let by : List Loc → List Loc → State = λ i ls. record { mesh = remapped x.mesh (field_count q) i ls; mask = carried_mask q x.mesh x.mask ls; counters = carried_counters x.mesh x.counters ls } in
    ap (λ (i : List Loc). by i (leaves next)) nodes ∙ ap (λ (ls : List Loc). by (inner_of x.mesh.shape inner) ls) places

-- the tree that follows a state
abbrev pub following : Settings → State → Loc → Bool
following q s = next_tree q s.mesh (tags_of q (kernel_of q) s)

-- what is on it
pub record OnNext (p : Problem) (s now : State) (next : TreeOfBlocks) : Type 0 where
  pub state : state_on (settings_of p) now next ≡ remeshed (settings_of p) (settled (settings_of p) (kernel_of (settings_of p)) s) (following (settings_of p) s)
  pub few : length (leaves_of s.mesh.shape (following (settings_of p) s)) ≤ leaf_limit

pub moves_there : (p : Problem) (s now : State) (next : TreeOfBlocks) → IsMeshOf (settings_of p) s.mesh → now ≡ settled (settings_of p) (kernel_of (settings_of p)) s → next ≡ tree_with s.mesh.shape (following (settings_of p) s) → length (leaves next) ≤ 65536 → OnNext p s now next
moves_there p s now next of is tree few =
    let q = settings_of p in
    let k = kernel_of q in
    let inner = following q s in
    let after = settled q k s in
    let shape : after.mesh.shape ≡ s.mesh.shape = (settled_is p k s of).shape ∙ sym of.shape in
    let is_tree : IsTree s.mesh.shape inner = (next_tree_is p k s of s.mesh.shape of.shape).0 in
    let test : is_listed (inner_of s.mesh.shape inner) ≡ inner = inner_test s.mesh.shape inner of.mesh.shape is_tree in
    let places : leaves next ≡ leaves_of s.mesh.shape inner = ap (λ (t : TreeOfBlocks). leaves t) tree ∙ ap (leaves_of s.mesh.shape) test in
    let nodes : next.inner ≡ inner_of s.mesh.shape inner = ap (λ (t : TreeOfBlocks). t.inner) tree in
    record {
      state = ap (λ (x : State). state_on q x next) is
          ∙ on_next q after next inner (nodes ∙ ap (λ (sh : Shape). inner_of sh inner) (sym shape)) (places ∙ ap (λ (sh : Shape). leaves_of sh inner) (sym shape));
      few = omega (arith, few, ap (λ (ls : List Loc). length ls) places);
    }

-- its lists are a mesh of the problem
pub moved_lists : (p : Problem) (s : State) (next : TreeOfBlocks) (l : Layout) (lists : List (List (List ℕ))) → IsMeshOf (settings_of p) s.mesh → l.dims ≡ p.shape.dims → l.cells ≡ p.cells
    → HaveLeafLists (field_count (settings_of p)) (leaves next) lists → length (leaves_of s.mesh.shape (following (settings_of p) s)) ≤ leaf_limit
    → mesh_of next p.cells lists ≡ (remeshed (settings_of p) (settled (settings_of p) (kernel_of (settings_of p)) s) (following (settings_of p) s)).mesh
    → sum_of_all (settings_of p) (settled (settings_of p) (kernel_of (settings_of p)) s).mesh ≤ 2 ^ 62 - 1 → IsMeshIn (settings_of p) next l lists
moved_lists p s next l lists of dims cells has few is bound =
    let q = settings_of p in
    let k = kernel_of q in
    let inner = following q s in
    let after = settled q k s in
    let on = settled_is p k s of in
    let tree = (next_tree_is p k s of after.mesh.shape on.shape).0 in
    let less = sum_to_le (field_count q) (total_of (remap after.mesh (field_count q) inner)) (total_of after.mesh) (λ f inside. omega (arith, remap_keeps_totals after.mesh (field_count q) f inner on.mesh tree inside)) in
    record {
      dims = dims;
      cells = cells;
      fields = has.fields;
      leaf_lists = has.leaves;
      mesh = subst (IsMeshOf q) (sym is) (remeshed_is p k s of few);
      bound = subst (λ (m : Mesh). sum_of_all q m ≤ 2 ^ 62 - 1) (sym is) (omega (arith, less, bound));
    }

-- a run that stays on its tree
pub stays_there : (p : Settings) (t : TreeOfBlocks) (l : Layout) (before : DenseState) (s : Settled) (cycle : ℕ) → IsSettled p t l before s → remeshes_at p cycle ≡ false → IsNextCycle p t l before cycle (record { tree = None; state = s.state; flows = s.flows; drops = s.drops; room = s.room })
stays_there p t l before s cycle is none =
    let k = kernel_of p in
    let b : State = state_of t p.cells before in
    record {
      held = is.held;
      flow_count = ap (λ (x : List Flow). length x) is.flows ∙ table_length (field_count p) (flow_of p k b);
      drop_count = ap (λ (x : List ℕ). length x) is.drops ∙ table_length (field_count p) (drop_of p k b);
      reached = cycle_stays p cycle b none
          ∙ ap (λ (x : State). running (record { state = x; flows = table (field_count p) (flow_of p k b); drops = table (field_count p) (drop_of p k b) })) (sym is.state)
          ∙ ap (λ (x : List Flow). running (record { state = state_of t p.cells s.state; flows = x; drops = table (field_count p) (drop_of p k b) })) (sym is.flows)
          ∙ ap (λ (x : List ℕ). running (record { state = state_of t p.cells s.state; flows = s.flows; drops = x })) (sym is.drops);
    }
