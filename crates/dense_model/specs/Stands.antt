-- For the code: where a run stands, in lists.
use Rattle.std.specs.Prelude.{◌≡◌, ℕ, ◌≤◌, List, length}
use Rattle.package_fields.specs.declared.flow.Flow.{Flow}
use Rattle.block_tree.specs.Blocks.{TreeOfBlocks}
use Rattle.problem_set.specs.Settings.{Settings}
use Rattle.mesh_rules.specs.Fields.{field_count}
use Rattle.mesh_rules.specs.Run.{Reached, running}
use Rattle.block_layout.specs.declared.layout.Layout.{Layout}
use Rattle.dense_cycle.specs.declared.state.DenseState.{DenseState}
use Rattle.dense_cycle.specs.Held.{IsHeldIn, state_of}
use Rattle.dense_model.specs.RunFiles.{run_of}

-- what lists on a tree have reached, with the flows and the drops of the cycle before
abbrev pub reached_in : Settings → TreeOfBlocks → DenseState → List Flow → List ℕ → Reached
reached_in p t state flows drops = record { state = state_of t p.cells state; flows = flows; drops = drops }

-- the run has come so far
pub record Stands (p : Settings) (cycle : ℕ) (t : TreeOfBlocks) (l : Layout) (state : DenseState) (flows : List Flow) (drops : List ℕ) : Type 0 where
  pub within : cycle ≤ p.nlim
  pub held : IsHeldIn p t l state.held
  pub flow_count : length flows ≡ field_count p
  pub drop_count : length drops ≡ field_count p
  pub reached : run_of p cycle ≡ running (reached_in p t state flows drops)
