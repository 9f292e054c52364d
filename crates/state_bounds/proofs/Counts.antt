-- Idle counts stay as they are until the check.
use Rattle.std.proofs.Common.{◌≡◌, ℕ, ◌<◌, Bool, true, cond, List, length, arith, ap}
use Rattle.std.proofs.lemmas.Bool.{and_from, lt-ltb}
use Rattle.mesh_rules.specs.declared.wish.Wish.{Wish}
use Rattle.mesh_rules.specs.Due.{Exchange}
use Rattle.mesh_rules.specs.Mask.{slot_at}
use Rattle.cycle_kernels.specs.Pairs.{FacePairs}
use Rattle.masked_cycles.specs.Cycles.{Cycle, IsCycle, IsPlace, is_place, start_of}
use Rattle.cycle_events.proofs.Agreements.{idle_counts_wait}
use Rattle.mesh_journals.specs.Cycles.{on_mesh}
use Rattle.mesh_journals.proofs.Ended.{mesh_cycles_are_cycles}
use Rattle.state_bounds.specs.Counts.{IdleCountsAreLow}

-- those with which the cycle starts are low
first_low : (c : Cycle) (b f : ℕ) → IsCycle c → IsPlace c b f → (start_of c).idle b f < c.problem.dealloc_count
first_low c b f is at =
    let place : is_place c b f ≡ true = and_from _ _ (lt-ltb b (length c.state.mesh.leaves) at.block) (lt-ltb f _ at.field) in
    let same = ap (λ (t : Bool). cond t (slot_at c.state.mask b f).idle 0) place in
    let low = is.fit.mask.idle b f at.block at.field in
    omega (arith, same, low)

pub idle_counts_are_low : IdleCountsAreLow
idle_counts_are_low c events b f is at h before =
    let same = idle_counts_wait Exchange (List ℕ) (List ℕ) FacePairs (List ℕ) Wish (on_mesh c) events b f (mesh_cycles_are_cycles c is) h before in
    let low = first_low c b f is at in
    omega (arith, same, low)
