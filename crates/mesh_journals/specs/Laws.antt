-- Every journal of a cycle on a mesh keeps to the rules, and ends as the rules do.
use Rattle.std.specs.Prelude.{◌≡◌, ℕ, ◌<◌, ◌≤◌, false, List, ◌++◌, length}
use Rattle.problem_set.specs.SettingsOf.{settings_of}
use Rattle.mesh_rules.specs.Due.{Exchange}
use Rattle.mesh_rules.specs.Fields.{field_count}
use Rattle.mesh_rules.specs.Cycle.{drop_of, flow_of}
use Rattle.cycle_rounds.specs.Events.{Each, Letter}
use Rattle.cycle_rounds.specs.Events as rounds
use Rattle.sparse_rounds.specs.Balance.{sum_blocks}
use Rattle.masked_cycles.specs.Cycles.{Cycle, IsCycle, IsPlace, kernels}
use Rattle.masked_cycles.specs.Ends.{EndsAsCycle}
use Rattle.masked_cycles.specs.States.{HoldsAfter, LetterHolds}
use Rattle.cycle_events.specs.declared.event.Event.{Event}
use Rattle.cycle_events.specs.Cycles as events
use Rattle.cycle_events.specs.Cycles.{plan}
use Rattle.cycle_events.specs.Journals.{IsComplete, IsJournal}
use Rattle.cycle_events.specs.Laws.{GoesOn}
use Rattle.mesh_journals.specs.Cycles.{MeshState, local_of, mesh_event_count, mesh_state, on_mesh}

-- what every law of journals asks of a cycle holds of a cycle on a mesh
abbrev pub MeshCyclesAreCycles : Type 0
MeshCyclesAreCycles = (c : Cycle) → IsCycle c → events.IsCycle (on_mesh c)

-- a state whose buffers and letters have what the rules say, by how far each list has come
pub record HoldsRules (c : Cycle) (s : MeshState) : Type 0 where
  pub places : (b f : ℕ) → IsPlace c b f → HoldsAfter c (s.given ((kernels c).owner b)) (local_of c s b) b f
  pub letters : Each (λ (l : Letter Exchange (ℕ → List ℕ)). LetterHolds c l.round l.of l.content) (s.wire ++ s.mail)

abbrev pub JournalsHoldRules : Type 0
JournalsHoldRules =
    (c : Cycle) (events : List Event) → IsCycle c → IsJournal (on_mesh c) events → HoldsRules c (mesh_state c events)

-- over all leaves, what has flowed of a field and what was dropped
pub record HasSums (c : Cycle) (s : MeshState) (f : ℕ) : Type 0 where
  pub inflow : sum_blocks (length c.state.mesh.leaves) (λ b g. (local_of c s b).inflow b g) f
      ≡ (flow_of (settings_of c.problem) c.react c.state f).inflow
  pub outflow : sum_blocks (length c.state.mesh.leaves) (λ b g. (local_of c s b).outflow b g) f
      ≡ (flow_of (settings_of c.problem) c.react c.state f).outflow
  pub made : sum_blocks (length c.state.mesh.leaves) (λ b g. (local_of c s b).made b g) f
      ≡ (flow_of (settings_of c.problem) c.react c.state f).made
  pub used : sum_blocks (length c.state.mesh.leaves) (λ b g. (local_of c s b).used b g) f
      ≡ (flow_of (settings_of c.problem) c.react c.state f).used
  pub dropped : sum_blocks (length c.state.mesh.leaves) (λ b g. (local_of c s b).dropped b g) f
      ≡ drop_of (settings_of c.problem) c.react c.state f

-- a complete journal ends, on each leaf and for each field, with what the cycle leaves, and with its sums
pub record EndsByRules (c : Cycle) (s : MeshState) : Type 0 where
  pub places : (b f : ℕ) → IsPlace c b f → EndsAsCycle c (local_of c s b) b f
  pub sums : (f : ℕ) → f < field_count (settings_of c.problem) → HasSums c s f

abbrev pub JournalsEndByRules : Type 0
JournalsEndByRules =
    (c : Cycle) (events : List Event) → IsCycle c → IsComplete (on_mesh c) events → EndsByRules c (mesh_state c events)

-- one that is not complete goes on
abbrev pub MeshesAreNeverStuck : Type 0
MeshesAreNeverStuck =
    (c : Cycle) (events : List Event) → IsCycle c → IsJournal (on_mesh c) events →
    rounds.is_complete (plan (on_mesh c)) (mesh_state c events) ≡ false → GoesOn (on_mesh c) events

-- and a complete one has so many events, which no other exceeds
pub record HasCount (c : Cycle) (events : List Event) : Type 0 where
  pub longest : length events ≤ mesh_event_count c
  pub complete : IsComplete (on_mesh c) events → length events ≡ mesh_event_count c

abbrev pub MeshEventsAreCounted : Type 0
MeshEventsAreCounted =
    (c : Cycle) (events : List Event) → IsCycle c → IsJournal (on_mesh c) events → HasCount c events
