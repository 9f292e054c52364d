use Rattle.std.proofs.Common.{◌≡◌, length}
use Rattle.block_tree.specs.Blocks.{leaves}
use Rattle.problem_set.specs.SettingsOf.{settings_of}
use Rattle.mesh_rules.specs.Cycle.{staged_to}
use Rattle.dense_cycle.specs.Flows.{HasSums}
use Rattle.dense_cycle.specs.Held.{IsHeldIn, held_of, state_of}
use Rattle.dense_cycle.specs.Work.{FitsWork}
use Rattle.dense_cycle.proofs.stages.run_stages.Given as goal

abbrev pub invariant-loop-stage : goal.invariant-loop-stage
invariant-loop-stage l = record {
  held_is : held_of l.fn.tree l.fn.problem.cells l.held ≡ staged_to (settings_of l.fn.problem) (state_of l.fn.tree l.fn.problem.cells l.fn.state) l.stage;
  kept : IsHeldIn (settings_of l.fn.problem) l.fn.tree l.fn.layout l.held;
  sums_are : HasSums (settings_of l.fn.problem) (state_of l.fn.tree l.fn.problem.cells l.fn.state) l.stage l.sums;
  work_fits : FitsWork l.fn.layout (length (leaves l.fn.tree)) l.work;
}
