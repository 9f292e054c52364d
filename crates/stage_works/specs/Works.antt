-- What is given back for the computing tasks of a stage.
use Rattle.std.specs.Prelude.{◌≡◌, ◌==◌, ℕ, ◌*◌, ◌%◌, ◌<◌, ◌≤◌, Bool, true, ◌&&◌, nat_lt, List, [], map, length, slice_index}
use Rattle.std.specs.List.{slice_index_or}
use Rattle.package_fields.specs.declared.flow.Flow.{Flow}
use Rattle.package_fields.specs.Flow.{no_flow}
use Rattle.problem_set.specs.SettingsOf.{settings_of}
use Rattle.mesh_rules.specs.Fields.{field_count}
use Rattle.field_bufs.specs.declared.buf.FieldBuf.{FieldBuf}
use Rattle.cycle_events.specs.declared.event.Event.{Event}
use Rattle.masked_cycles.specs.Cycles.{Cycle, cycle_mesh}
use Rattle.mesh_journals.specs.Cycles.{mesh_state}
use Rattle.cycle_leases.specs.declared.lease.Finished.{Finished}
use Rattle.cycle_leases.specs.declared.lease.Lease.{Lease}
use Rattle.cycle_leases.specs.Leases.{IsLeaseAfter, is_update}
use Rattle.cycle_leases.specs.Works.{IsWork, is_among}
use Rattle.lent_bufs.specs.Sums.{sum_of_field, with_flow}
use Rattle.stage_tasks.specs.Fluxes.{with_fluxes}
use Rattle.stage_tasks.specs.Updates.{dropped_of, inflow_in, outflow_in, updated_buf}

-- the buffers of a lease, with flows and drops, and nothing else
abbrev pub gives_back : Lease → List FieldBuf → List Flow → List ℕ → Finished
gives_back lease bufs flows drops = record {
  list = lease.list;
  task = lease.task;
  bufs = bufs;
  sent = [];
  made = [];
  freed = [];
  flows = flows;
  wishes = [];
  counts = [];
  keeps = [];
  drops = drops;
}

-- whether a task is that of fluxes
abbrev pub is_fluxing : Cycle → ℕ → Bool
is_fluxing c task = nat_lt task (6 * c.problem.nstages) && task % 6 == 2

abbrev pub FluxesAreWork : Type 0
FluxesAreWork = (c : Cycle) (events : List Event) (lease : Lease) → IsLeaseAfter c events lease →
    is_fluxing c lease.task ≡ true →
    IsWork c (mesh_state c events) lease.list (gives_back lease (map (with_fluxes (cycle_mesh c)) lease.bufs) [] [])

-- flows and drops by field are those of the update
pub record AreUpdateSums (c : Cycle) (lease : Lease) (flows : List Flow) (drops : List ℕ) : Type 0 where
  pub few_flows : length flows ≤ field_count (settings_of c.problem)
  pub flow : (f : ℕ) → slice_index_or flows f no_flow ≡ with_flow no_flow
      (sum_of_field lease.bufs (inflow_in (cycle_mesh c)) f) (sum_of_field lease.bufs (outflow_in (cycle_mesh c)) f)
  pub few_drops : length drops ≤ field_count (settings_of c.problem)
  pub drop : (f : ℕ) → slice_index drops f ≡ sum_of_field lease.bufs (dropped_of (cycle_mesh c) lease.kept) f

-- the buffers of a lease after an update
abbrev pub updated_bufs : Cycle → Lease → List FieldBuf
updated_bufs c lease =
    map (λ buf. updated_buf (cycle_mesh c) (is_among lease.kept buf.block buf.field) buf) lease.bufs

abbrev pub UpdatesAreWork : Type 0
UpdatesAreWork = (c : Cycle) (events : List Event) (lease : Lease) (flows : List Flow) (drops : List ℕ) →
    IsLeaseAfter c events lease → is_update c lease.task ≡ true → AreUpdateSums c lease flows drops →
    IsWork c (mesh_state c events) lease.list (gives_back lease (updated_bufs c lease) flows drops)
