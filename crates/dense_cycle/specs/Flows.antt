-- For the code: flows and drops of the first stages of a cycle.
use Rattle.std.specs.Prelude.{◌≡◌, ℕ, ◌+◌, ◌<◌, ◌^◌, List, All, length}
use Rattle.package_fields.specs.declared.flow.Flow.{Flow}
use Rattle.problem_set.specs.Settings.{Settings}
use Rattle.mesh_rules.specs.Sums.{sum_to, table}
use Rattle.mesh_rules.specs.Fields.{field_count}
use Rattle.mesh_rules.specs.Stage.{inflow_of, outflow_of, stage}
use Rattle.mesh_rules.specs.Mask.{dropped_of, kept_by_check, kept_by_exchange, kept_by_reaction}
use Rattle.mesh_rules.specs.Reaction.{react_mesh}
use Rattle.package_fields.specs.Kernel.{Reacted}
use Rattle.mesh_rules.specs.Cycle.{Held, State, flow_of, staged_to}
use Rattle.dense_cycle.specs.Sums.{AreSmallFlows}
use Rattle.dense_cycle.specs.declared.sums.StageSums.{StageSums}

-- what has passed the faces of the domain of a field in that many stages
abbrev pub flow_in : Settings → State → ℕ → ℕ → Flow
flow_in p s stages f = record {
  inflow = sum_to stages (λ n. inflow_of p (staged_to p s n).mesh f);
  outflow = sum_to stages (λ n. outflow_of p (staged_to p s n).mesh f);
  made = 0;
  used = 0;
}

-- what of a field is dropped in a stage
abbrev pub drop_of_stage : Settings → Held → ℕ → ℕ
drop_of_stage p h f = dropped_of p (kept_by_exchange p h.mesh h.mask) (stage p h.mesh) f

-- what is dropped of it in that many stages
abbrev pub drop_in : Settings → State → ℕ → ℕ → ℕ
drop_in p s stages f = sum_to stages (λ n. drop_of_stage p (staged_to p s n) f)

-- sums are those of the first stages of a cycle
pub record HasSums (p : Settings) (s : State) (stages : ℕ) (sums : StageSums) : Type 0 where
  pub flows : sums.flows.items ≡ table (field_count p) (flow_in p s stages)
  pub drops : sums.drops.items ≡ table (field_count p) (drop_in p s stages)

-- what a stage passes and drops can be added to sums
pub record CanAdd (p : Settings) (h : Held) (sums : StageSums) : Type 0 where
  pub flow_count : length sums.flows.items ≡ field_count p
  pub drop_count : length sums.drops.items ≡ field_count p
  pub flows : AreSmallFlows sums.flows.items
  pub drops : All (λ n. n < 2 ^ 100) sums.drops.items
  pub passed : (f : ℕ) → f < field_count p → (inflow_of p h.mesh f < 2 ^ 64) × (outflow_of p h.mesh f < 2 ^ 64)
  pub dropped : (f : ℕ) → f < field_count p → drop_of_stage p h f < 2 ^ 64

-- what of a field is dropped after the reaction, and at the check
abbrev pub drop_of_reaction : Settings → (List ℕ → Reacted) → Held → ℕ → ℕ
drop_of_reaction p react h f =
    let m = react_mesh react (field_count p) h.mesh in
    dropped_of p (kept_by_reaction p m h.mask) m f

abbrev pub drop_at_check : Settings → Held → ℕ → ℕ
drop_at_check p h f = dropped_of p (kept_by_check p h.mesh h.mask) h.mesh f

-- flows after all stages and the reaction, and what was dropped by then
pub record HasReacted (p : Settings) (react : List ℕ → Reacted) (s : State) (sums : StageSums) : Type 0 where
  pub flows : sums.flows.items ≡ table (field_count p) (flow_of p react s)
  pub drops : sums.drops.items ≡ table (field_count p) (λ f. drop_in p s p.nstages f + drop_of_reaction p react (staged_to p s p.nstages) f)
