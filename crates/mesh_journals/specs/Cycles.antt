-- The journals of a cycle on a mesh.
use Rattle.std.specs.Prelude.{ℕ, ◌+◌, ◌*◌, List, length}
use Rattle.problem_set.specs.SettingsOf.{settings_of}
use Rattle.mesh_rules.specs.declared.wish.Wish.{Wish}
use Rattle.mesh_rules.specs.Due.{Exchange, flux_letters, ghost_letters, partition_count}
use Rattle.mesh_rules.specs.Fields.{field_count}
use Rattle.sparse_rounds.specs.Sparse.{Local}
use Rattle.cycle_kernels.specs.Pairs.{FacePairs}
use Rattle.masked_cycles.specs.Cycles.{Cycle, kernels, start_of}
use Rattle.cycle_events.specs.declared.event.Event.{Event}
use Rattle.cycle_events.specs.Cycles as events
use Rattle.cycle_events.specs.Cycles.{StateOf, state_of}

-- a state of a cycle on a mesh
abbrev pub MeshState : Type 0
MeshState = StateOf Exchange (List ℕ) (List ℕ) FacePairs (List ℕ) Wish

-- what its events are told by: the kernels of the mesh, the start, and how many leaves and fields there are
abbrev pub on_mesh : Cycle → events.Cycle Exchange (List ℕ) (List ℕ) FacePairs (List ℕ) Wish
on_mesh c = record {
  kernels = kernels c;
  start = start_of c;
  size = record { blocks = length c.state.mesh.leaves; fields = field_count (settings_of c.problem) };
}

-- the state that a journal leads to, and what the list of a leaf has in a state
abbrev pub mesh_state : Cycle → List Event → MeshState
mesh_state c events = state_of (on_mesh c) events

abbrev pub local_of : Cycle → MeshState → ℕ → Local (List ℕ) (List ℕ) FacePairs Wish
local_of c s b = s.local ((kernels c).owner b)

-- how many events there are: two for each task of a partition, and one for each letter of a stage
abbrev pub mesh_event_count : Cycle → ℕ
mesh_event_count c =
    2 * (partition_count (settings_of c.problem) (length c.state.mesh.leaves) * (6 * c.problem.nstages + 3))
    + c.problem.nstages * (length (ghost_letters c.state.mesh) + length (flux_letters c.state.mesh))
