-- The run: cycle after cycle from any state, with any kernel, and from the opening of a problem.
use Rattle.std.specs.Prelude.{◌==◌, ℕ, zero, suc, ◌+◌, ◌%◌, Bool, true, false, cond, ◌&&◌, nat_le, List, length, replicate}
use Rattle.std.specs.List.{slice_index_or}
use Rattle.morton_order.specs.declared.space.Loc.{Loc}
use Rattle.block_tree.specs.Leaves.{leaves_of}
use Rattle.package_fields.specs.declared.flow.Flow.{Flow}
use Rattle.package_fields.specs.Flow.{no_flow}
use Rattle.package_fields.specs.Kernel.{Reacted}
use Rattle.problem_set.specs.Settings.{Settings}
use Rattle.mesh_settings.specs.declared.words.Mode.{Mode}
use Rattle.mesh_settings.specs.declared.words.Mode.TheVariants.{Plain, Fixed, Adaptive}
use Rattle.mesh_rules.specs.Sums.{table}
use Rattle.mesh_rules.specs.Fields.{field_count}
use Rattle.mesh_rules.specs.Remesh.{carried_counters, next_tree, remap}
use Rattle.mesh_rules.specs.Mask.{carried_mask}
use Rattle.mesh_rules.specs.Cycle.{State, drop_of, flow_of, settled, tags_of}
use Rattle.mesh_rules.specs.Opening.{opening_state, opening_tree}

-- how far a run has come: the state after a cycle, with the flows and the drops of that cycle by field
pub record Reached : Type 0 where
  pub state : State
  pub flows : List Flow
  pub drops : List ℕ

-- a run goes on, or stops where a tree has too many leaves: at the start, or at a cycle, with their number
pub data Outcome : Type 0 where
  running : Reached → Outcome
  too_many_at_start : Outcome
  too_many_at : ℕ → ℕ → Outcome

-- a tree has at most that many leaves
abbrev pub leaf_limit : ℕ
leaf_limit = 65536

-- whether the tree changes during the run
abbrev pub is_adaptive : Mode → Bool
is_adaptive Plain = false
is_adaptive Fixed = false
is_adaptive Adaptive = true

-- whether the tree may change after a cycle
abbrev pub remeshes_at : Settings → ℕ → Bool
remeshes_at p cycle = is_adaptive p.mode && cycle % p.refine_every == 0

-- the state on the next tree
abbrev pub remeshed : Settings → State → (Loc → Bool) → State
remeshed p s inner =
    let leaves = leaves_of s.mesh.shape inner in
    record {
      mesh = remap s.mesh (field_count p) inner;
      mask = carried_mask p s.mesh s.mask leaves;
      counters = carried_counters s.mesh s.counters leaves;
    }

-- a state with the flows and drops of the cycle that led to it
abbrev pub reached : Settings → (List ℕ → Reacted) → State → State → Reached
reached p react before after = record {
  state = after;
  flows = table (field_count p) (flow_of p react before);
  drops = table (field_count p) (drop_of p react before);
}

-- a cycle's end where the tree may change: on the next tree, or stopped where that has too many leaves
abbrev pub end_on_tree : Settings → (List ℕ → Reacted) → ℕ → State → State → (Loc → Bool) → Outcome
end_on_tree p react cycle s after inner =
    let leaves = length (leaves_of s.mesh.shape inner) in
    cond (nat_le leaves leaf_limit) (running (reached p react s (remeshed p after inner))) (too_many_at cycle leaves)

-- one cycle from a state, by its number
abbrev pub cycled : Settings → (List ℕ → Reacted) → ℕ → State → Outcome
cycled p react cycle s = cond (remeshes_at p cycle)
    (end_on_tree p react cycle s (settled p react s) (next_tree p s.mesh (tags_of p react s)))
    (running (reached p react s (settled p react s)))

-- a run that has stopped stays stopped
abbrev pub next_outcome : Settings → (List ℕ → Reacted) → ℕ → Outcome → Outcome
next_outcome p react cycle (running r) = cycled p react cycle r.state
next_outcome p react cycle too_many_at_start = too_many_at_start
next_outcome p react cycle (too_many_at at leaves) = too_many_at at leaves

-- the run that many cycles after an outcome, which was that of the run after the first cycles
unfoldable pub run_from : Settings → (List ℕ → Reacted) → ℕ → Outcome → ℕ → Outcome
run_from p react first start zero = start
run_from p react first start (suc n) = next_outcome p react (first + suc n) (run_from p react first start n)

-- nothing has flowed and nothing was dropped before the first cycle
abbrev pub start_of : Settings → State → Reached
start_of p s = record { state = s; flows = replicate (field_count p) no_flow; drops = replicate (field_count p) 0 }

-- a problem's run before its first cycle: it stops there where the opening tree has too many leaves
abbrev pub opened : Settings → Outcome
opened p = cond (nat_le (length (leaves_of p.shape (opening_tree p))) leaf_limit) (running (start_of p (opening_state p))) too_many_at_start

-- a problem's run after that many cycles, with any kernel
unfoldable pub run : Settings → (List ℕ → Reacted) → ℕ → Outcome
run p react n = run_from p react 0 (opened p) n

-- a field's flow in the last cycle of a run
abbrev pub last_flow : Reached → ℕ → Flow
last_flow r f = slice_index_or r.flows f no_flow

-- what of a field was dropped in the last cycle of a run
abbrev pub last_drop : Reached → ℕ → ℕ
last_drop r f = slice_index_or r.drops f 0
