-- The masked serial run of the kernels of a mesh, and the cycle of the rules.
use Rattle.std.specs.Prelude.{◌≡◌, ℕ, ◌+◌, ◌<◌, Bool, true, cond, ◌&&◌, not, nat_lt, List, length, replicate}
use Rattle.std.specs.List.{slice_index_or}
use Rattle.morton_order.specs.declared.space.Loc.{Loc}
use Rattle.package_fields.specs.Kernel.{Reacted}
use Rattle.package_fields.specs.declared.flow.Flow.{Flow}
use Rattle.problem_set.specs.Settings.{Settings}
use Rattle.problem_set.specs.SettingsOf.{settings_of}
use Rattle.problem_set.specs.declared.problem.Problem.{Problem}
use Rattle.mesh_rules.specs.declared.wish.Wish.{Wish}
use Rattle.mesh_rules.specs.Sums.{sum_to}
use Rattle.mesh_rules.specs.Mesh.{totals_on}
use Rattle.mesh_rules.specs.Due.{Exchange}
use Rattle.mesh_rules.specs.Fields.{field_count, is_sparse}
use Rattle.mesh_rules.specs.Fit.{IsFit}
use Rattle.mesh_rules.specs.Mask.{slot_at}
use Rattle.mesh_rules.specs.Stage.{leaf_inflow, leaf_outflow}
use Rattle.mesh_rules.specs.Cycle.{Held, State, checked, leaf_drop_by_reaction, reacted_to, staged_to}
use Rattle.mesh_rules.specs.Cycle as rules
use Rattle.mesh_rules.specs.Tags.{wish}
use Rattle.block_layout.specs.declared.layout.Layout.{Layout}
use Rattle.block_layout.specs.Layouts.{interior_len}
use Rattle.block_geometry.specs.Blocks.{IsLayoutOf}
use Rattle.sparse_rounds.specs.Kernels.{Kernels}
use Rattle.sparse_rounds.specs.Masked.{IsStart, Run, checked_run, reacted_run, run_at}
use Rattle.sparse_rounds.specs.Balance.{sum_blocks}
use Rattle.cycle_kernels.specs.Blocks.{CycleMesh}
use Rattle.cycle_kernels.specs.Kernels.{kernels_of}
use Rattle.cycle_kernels.specs.Pairs.{FacePairs}

-- a cycle: a problem, what the reactions make of a cell, the state that it starts with, and how the totals of blocks
-- lie in lists
pub record Cycle : Type 0 where
  pub problem : Problem
  pub react : List ℕ → Reacted
  pub state : State
  pub layout : Layout

pub record IsCycle (c : Cycle) : Type 0 where
  pub fit : IsFit (settings_of c.problem) c.state
  pub layout : IsLayoutOf c.state.mesh c.layout

-- its settings, and the leaf with a number
abbrev pub settings : Cycle → Settings
settings c = settings_of c.problem

abbrev pub leaf : Cycle → ℕ → Loc
leaf c b = slice_index_or c.state.mesh.leaves b (record { level = 0; l1 = 0; l2 = 0; l3 = 0 })

-- the kernels of its mesh
abbrev pub cycle_mesh : Cycle → CycleMesh
cycle_mesh c = record { settings = settings c; mesh = c.state.mesh; layout = c.layout; react = c.react }

abbrev pub kernels : Cycle → Kernels Exchange (List ℕ) (List ℕ) FacePairs (List ℕ) Wish
kernels c = kernels_of (cycle_mesh c)

-- a leaf's number and a field's
pub record IsPlace (c : Cycle) (b f : ℕ) : Type 0 where
  pub block : b < length c.state.mesh.leaves
  pub field : f < field_count (settings c)

abbrev pub is_place : Cycle → ℕ → ℕ → Bool
is_place c b f = nat_lt b (length c.state.mesh.leaves) && nat_lt f (field_count (settings c))

abbrev pub may_be_absent : Cycle → ℕ → Bool
may_be_absent c f = cond (nat_lt f (field_count (settings c))) (is_sparse (settings c) f) true

-- the run starts with the totals and the mask of the state, and with sums of nothing; elsewhere there are no totals,
-- and only what no block may go without is kept
abbrev pub start_of : Cycle → Run (List ℕ)
start_of c = record {
  mesh = λ b f. cond (is_place c b f) (totals_on c.state.mesh b f) (replicate (interior_len c.layout) 0);
  kept = λ b f. cond (is_place c b f) (slot_at c.state.mask b f).kept (not (may_be_absent c f));
  idle = λ b f. cond (is_place c b f) (slot_at c.state.mask b f).idle 0;
  dropped = λ _ _. 0;
  inflow = λ _ _. 0;
  outflow = λ _ _. 0;
  made = λ _ _. 0;
  used = λ _ _. 0;
}

abbrev pub StartsAreStarts : Type 0
StartsAreStarts = (c : Cycle) → IsCycle c → IsStart (kernels c) (start_of c)

-- the run after n stages, after the reaction, and after the check; and mesh and mask of the rules then
abbrev pub run_after : Cycle → ℕ → Run (List ℕ)
run_after c n = run_at (kernels c) (start_of c) n

abbrev pub run_reacted : Cycle → Run (List ℕ)
run_reacted c = reacted_run (kernels c) (start_of c)

abbrev pub run_checked : Cycle → Run (List ℕ)
run_checked c = checked_run (kernels c) (start_of c)

abbrev pub held_after : Cycle → ℕ → Held
held_after c n = staged_to (settings c) c.state n

abbrev pub held_reacted : Cycle → Held
held_reacted c = reacted_to (settings c) c.react c.state

abbrev pub held_checked : Cycle → Held
held_checked c = checked (settings c) c.react c.state

-- what of a field is dropped, flows in and flows out on a leaf in a stage, and is dropped after the reaction
abbrev pub stage_drop : Cycle → ℕ → ℕ → ℕ → ℕ
stage_drop c b f n = rules.leaf_drop_in_stage (settings c) (held_after c n) f (leaf c b)

abbrev pub stage_inflow : Cycle → ℕ → ℕ → ℕ → ℕ
stage_inflow c b f n = leaf_inflow (settings c) (held_after c n).mesh f (leaf c b)

abbrev pub stage_outflow : Cycle → ℕ → ℕ → ℕ → ℕ
stage_outflow c b f n = leaf_outflow (settings c) (held_after c n).mesh f (leaf c b)

abbrev pub reaction_drop : Cycle → ℕ → ℕ → ℕ
reaction_drop c b f = leaf_drop_by_reaction (settings c) c.react (held_after c c.problem.nstages) f (leaf c b)

-- what of it is dropped and flows there in the cycle
abbrev pub leaf_drop : Cycle → ℕ → ℕ → ℕ
leaf_drop c b f = rules.leaf_drop (settings c) c.react c.state f (leaf c b)

abbrev pub leaf_flow : Cycle → ℕ → ℕ → Flow
leaf_flow c b f = rules.leaf_flow (settings c) c.react c.state f (leaf c b)

-- a run has the totals and the mask of a mesh
pub record Holds (r : Run (List ℕ)) (h : Held) (b f : ℕ) : Type 0 where
  pub totals : r.mesh b f ≡ totals_on h.mesh b f
  pub kept : r.kept b f ≡ (slot_at h.mask b f).kept
  pub idle : r.idle b f ≡ (slot_at h.mask b f).idle

-- after n stages, with what was dropped and has flowed by then
pub record StageAgrees (c : Cycle) (n b f : ℕ) : Type 0 where
  pub holds : Holds (run_after c n) (held_after c n) b f
  pub dropped : (run_after c n).dropped b f ≡ sum_to n (stage_drop c b f)
  pub inflow : (run_after c n).inflow b f ≡ sum_to n (stage_inflow c b f)
  pub outflow : (run_after c n).outflow b f ≡ sum_to n (stage_outflow c b f)
  pub made : (run_after c n).made b f ≡ 0
  pub used : (run_after c n).used b f ≡ 0

abbrev pub StagesAgree : Type 0
StagesAgree = (c : Cycle) (n b f : ℕ) → IsCycle c → IsPlace c b f → StageAgrees c n b f

-- a run's flows are those of a leaf in the cycle
pub record HasFlowed (c : Cycle) (r : Run (List ℕ)) (b f : ℕ) : Type 0 where
  pub inflow : r.inflow b f ≡ (leaf_flow c b f).inflow
  pub outflow : r.outflow b f ≡ (leaf_flow c b f).outflow
  pub made : r.made b f ≡ (leaf_flow c b f).made
  pub used : r.used b f ≡ (leaf_flow c b f).used

-- after the reaction
pub record ReactionAgrees (c : Cycle) (b f : ℕ) : Type 0 where
  pub holds : Holds (run_reacted c) (held_reacted c) b f
  pub flows : HasFlowed c (run_reacted c) b f
  pub dropped : (run_reacted c).dropped b f ≡ sum_to c.problem.nstages (stage_drop c b f) + reaction_drop c b f

abbrev pub ReactionsAgree : Type 0
ReactionsAgree = (c : Cycle) (b f : ℕ) → IsCycle c → IsPlace c b f → ReactionAgrees c b f

-- and after the check: the end of the cycle, with all that was dropped and has flowed
pub record CheckAgrees (c : Cycle) (b f : ℕ) : Type 0 where
  pub holds : Holds (run_checked c) (held_checked c) b f
  pub flows : HasFlowed c (run_checked c) b f
  pub dropped : (run_checked c).dropped b f ≡ leaf_drop c b f

abbrev pub ChecksAgree : Type 0
ChecksAgree = (c : Cycle) (b f : ℕ) → IsCycle c → IsPlace c b f → CheckAgrees c b f

-- what each block wishes after the reaction is the wish of the leaf
abbrev pub leaf_wish : Cycle → ℕ → Wish
leaf_wish c b = wish (settings c) (held_reacted c).mesh (leaf c b)

abbrev pub WishesAgree : Type 0
WishesAgree = (c : Cycle) (b : ℕ) → IsCycle c → b < length c.state.mesh.leaves →
    (kernels c).wish b ((run_reacted c).mesh b) ≡ leaf_wish c b

-- what flows of a field in the cycle, and the sum of what a run says of its blocks
abbrev pub flow_of : Cycle → ℕ → Flow
flow_of c f = rules.flow_of (settings c) c.react c.state f

abbrev pub sum_of : Cycle → (ℕ → ℕ → ℕ) → ℕ → ℕ
sum_of c sums f = sum_blocks (length c.state.mesh.leaves) sums f

-- over all blocks, a field's sums are the cycle's
pub record SumsAgree (c : Cycle) (f : ℕ) : Type 0 where
  pub inflow : sum_of c (run_checked c).inflow f ≡ (flow_of c f).inflow
  pub outflow : sum_of c (run_checked c).outflow f ≡ (flow_of c f).outflow
  pub made : sum_of c (run_checked c).made f ≡ (flow_of c f).made
  pub used : sum_of c (run_checked c).used f ≡ (flow_of c f).used
  pub dropped : sum_of c (run_checked c).dropped f ≡ rules.drop_of (settings c) c.react c.state f

abbrev pub AllSumsAgree : Type 0
AllSumsAgree = (c : Cycle) (f : ℕ) → IsCycle c → f < field_count (settings c) → SumsAgree c f
