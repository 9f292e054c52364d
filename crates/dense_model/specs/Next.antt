-- For the code: what a cycle comes to on its tree, and on the next one.
use Rattle.std.specs.Prelude.{◌≡◌, ℕ, Option, Some, None, length}
use Rattle.block_tree.specs.Blocks.{TreeOfBlocks, leaves}
use Rattle.block_layout.specs.declared.layout.Layout.{Layout}
use Rattle.problem_set.specs.Settings.{Settings}
use Rattle.mesh_rules.specs.Sums.{table}
use Rattle.mesh_rules.specs.Fields.{field_count}
use Rattle.mesh_rules.specs.Mask.{carried_mask}
use Rattle.mesh_rules.specs.Reaction.{kernel_of}
use Rattle.mesh_rules.specs.Remesh.{carried_counters, remapped}
use Rattle.mesh_rules.specs.Cycle.{State, drop_of, flow_of, settled, tags_of}
use Rattle.mesh_rules.specs.Run.{cycled, running, too_many_at}
use Rattle.dense_cycle.specs.declared.settling.Settled.{Settled}
use Rattle.dense_cycle.specs.declared.state.DenseState.{DenseState}
use Rattle.dense_cycle.specs.Held.{IsHeldIn, state_of}
use Rattle.dense_model.specs.declared.fault.DenseFault.{DenseFault}
use Rattle.dense_model.specs.declared.fault.DenseFault.TheVariants.{NoMemory, TooManyAtStart, TooManyBlocks}
use Rattle.dense_model.specs.declared.next.Next.{Next}
use Rattle.dense_model.specs.Stands.{reached_in}

-- a cycle on its tree is that of the rules
pub record IsSettled (p : Settings) (t : TreeOfBlocks) (l : Layout) (before : DenseState) (s : Settled) : Type 0 where
  pub state : state_of t p.cells s.state ≡ settled p (kernel_of p) (state_of t p.cells before)
  pub held : IsHeldIn p t l s.state.held
  pub tags : s.tags.items ≡ tags_of p (kernel_of p) (state_of t p.cells before)
  pub flows : s.flows ≡ table (field_count p) (flow_of p (kernel_of p) (state_of t p.cells before))
  pub drops : s.drops ≡ table (field_count p) (drop_of p (kernel_of p) (state_of t p.cells before))

-- a state on another tree: looks, slots and counters of its leaves
abbrev pub state_on : Settings → State → TreeOfBlocks → State
state_on p s next = record {
  mesh = remapped s.mesh (field_count p) next.inner (leaves next);
  mask = carried_mask p s.mesh s.mask (leaves next);
  counters = carried_counters s.mesh s.counters (leaves next);
}

-- the tree after a cycle: another one, or the same
abbrev pub tree_after : TreeOfBlocks → Option TreeOfBlocks → TreeOfBlocks
tree_after t None = t
tree_after t (Some next) = next

-- the next cycle of a run is that of the rules
pub record IsNextCycle (p : Settings) (t : TreeOfBlocks) (l : Layout) (before : DenseState) (cycle : ℕ) (next : Next) : Type 0 where
  pub held : IsHeldIn p (tree_after t next.tree) l next.state.held
  pub flow_count : length next.flows ≡ field_count p
  pub drop_count : length next.drops ≡ field_count p
  pub reached : cycled p (kernel_of p) cycle (state_of t p.cells before) ≡ running (reached_in p (tree_after t next.tree) next.state next.flows next.drops)

-- a cycle that stops the run: the next tree has too many leaves
abbrev pub StopsCycle : Settings → State → ℕ → DenseFault → Type 0
StopsCycle p s cycle NoMemory = Unit {0}
StopsCycle p s cycle TooManyAtStart = ⊥
StopsCycle p s cycle (TooManyBlocks at count) = (at ≡ cycle) × (cycled p (kernel_of p) cycle s ≡ too_many_at at count)
