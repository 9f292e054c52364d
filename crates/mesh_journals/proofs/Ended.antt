-- Journals on a mesh keep to the rules.
use Rattle.std.proofs.Common.{ℕ, ◌<◌, List, length, map, ◌∙◌}
use Rattle.mesh_rules.specs.declared.wish.Wish.{Wish}
use Rattle.mesh_rules.specs.Due.{Exchange}
use Rattle.cycle_rounds.proofs.Lists.{range_sum_same}
use Rattle.sparse_rounds.specs.Masked.{checked_run}
use Rattle.cycle_kernels.specs.Pairs.{FacePairs}
use Rattle.masked_cycles.specs.Cycles.{Cycle, IsCycle, kernels, start_of}
use Rattle.masked_cycles.proofs.Ends.{cycles_end, sums_agree}
use Rattle.masked_cycles.proofs.Starts.{starts_are_starts}
use Rattle.masked_cycles.proofs.States.{letters_hold, states_hold}
use Rattle.masked_cycles.proofs.Trees.{laws_of}
use Rattle.cycle_events.specs.declared.event.Event.{Event}
use Rattle.cycle_events.specs.Cycles.{forget, opening}
use Rattle.cycle_events.specs.Journals.{IsComplete}
use Rattle.cycle_events.proofs.Agreements.{events_are_counted, journals_end_masked, never_stuck_now}
use Rattle.cycle_events.proofs.Histories.{history_is}
use Rattle.mesh_journals.specs.Cycles.{local_of, mesh_state, on_mesh}
use Rattle.mesh_journals.specs.Laws.{HasSums, JournalsEndByRules, JournalsHoldRules, MeshCyclesAreCycles, MeshEventsAreCounted, MeshesAreNeverStuck}

pub mesh_cycles_are_cycles : MeshCyclesAreCycles
mesh_cycles_are_cycles c is = record { kernels = laws_of c is; start = starts_are_starts c is }

pub journals_hold_rules : JournalsHoldRules
journals_hold_rules c events is h =
    let history = history_is (on_mesh c) (opening (on_mesh c)) events h.legal in
    record {
      places = λ b f at. states_hold c (map forget events) b f is at history;
      letters = letters_hold c (map forget events) is history;
    }

pub meshes_are_never_stuck : MeshesAreNeverStuck
meshes_are_never_stuck c events is h more =
    never_stuck_now Exchange (List ℕ) (List ℕ) FacePairs (List ℕ) Wish (on_mesh c) events (mesh_cycles_are_cycles c is) h more

pub mesh_events_are_counted : MeshEventsAreCounted
mesh_events_are_counted c events is h =
    let counted = events_are_counted Exchange (List ℕ) (List ℕ) FacePairs (List ℕ) Wish (on_mesh c) events (mesh_cycles_are_cycles c is) h in
    record { longest = counted.longest; complete = counted.complete }

-- what has flowed and was dropped over all leaves
has_sums : (c : Cycle) (events : List Event) → IsCycle c → IsComplete (on_mesh c) events → (f : ℕ) → f < (on_mesh c).size.fields → HasSums c (mesh_state c events) f
has_sums c events is h f some =
    let s = mesh_state c events in
    let r = checked_run (kernels c) (start_of c) in
    let leaves = length c.state.mesh.leaves in
    let all = sums_agree c f is some in
    let at = λ (b : ℕ). journals_end_masked Exchange (List ℕ) (List ℕ) FacePairs (List ℕ) Wish (on_mesh c) events (mesh_cycles_are_cycles c is) h b f in
    record {
      inflow = range_sum_same (λ b. r.inflow b f) (λ b. (local_of c s b).inflow b f) 0 leaves (λ b low high. (at b).run.sums.inflow) ∙ all.inflow;
      outflow = range_sum_same (λ b. r.outflow b f) (λ b. (local_of c s b).outflow b f) 0 leaves (λ b low high. (at b).run.sums.outflow) ∙ all.outflow;
      made = range_sum_same (λ b. r.made b f) (λ b. (local_of c s b).made b f) 0 leaves (λ b low high. (at b).run.sums.made) ∙ all.made;
      used = range_sum_same (λ b. r.used b f) (λ b. (local_of c s b).used b f) 0 leaves (λ b low high. (at b).run.sums.used) ∙ all.used;
      dropped = range_sum_same (λ b. r.dropped b f) (λ b. (local_of c s b).dropped b f) 0 leaves (λ b low high. (at b).run.sums.dropped) ∙ all.dropped;
    }

pub journals_end_by_rules : JournalsEndByRules
journals_end_by_rules c events is h = record {
  places = λ b f at. cycles_end c (map forget events) b f is at (history_is (on_mesh c) (opening (on_mesh c)) events h.journal.legal) h.done;
  sums = has_sums c events is h;
}
