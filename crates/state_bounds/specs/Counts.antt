-- How high idle counts come.
use Rattle.std.specs.Prelude.{ℕ, ◌+◌, ◌*◌, ◌<◌, List}
use Rattle.masked_cycles.specs.Cycles.{Cycle, IsCycle, IsPlace, kernels}
use Rattle.cycle_events.specs.declared.event.Event.{Event}
use Rattle.cycle_events.specs.Journals.{IsJournal}
use Rattle.mesh_journals.specs.Cycles.{local_of, mesh_state, on_mesh}

-- until a list has given its check, a field on a block of it was idle at fewer checks in a row than free it
abbrev pub IdleCountsAreLow : Type 0
IdleCountsAreLow = (c : Cycle) (events : List Event) (b f : ℕ) → IsCycle c → IsPlace c b f → IsJournal (on_mesh c) events →
    (mesh_state c events).given ((kernels c).owner b) < 6 * c.problem.nstages + 3 →
    (local_of c (mesh_state c events) b).idle b f < c.problem.dealloc_count
