use Rattle.std.proofs.Common.{◌≡◌, ◌*◌, ◌^◌, ◌≤◌, ℕ, length, map, drop, take, filter}
use Rattle.std.specs.Prelude.{slice_index}
use Rattle.std.specs.List.{slice_index_or}
use Rattle.package_fields.specs.Flow.{no_flow}
use Rattle.lent_bufs.specs.Buffers.{place_of}
use Rattle.lent_bufs.specs.Meshes.{mesh_in}
use Rattle.lent_bufs.specs.Kept.{is_among}
use Rattle.lent_bufs.specs.Sums.{sum_of_field, with_flow}
use Rattle.lent_bufs.proofs.Each.{AreDoneTo}
use Rattle.lent_bufs.proofs.Keeps.{among}
use Rattle.stage_tasks.specs.Updates.{dropped_of, inflow_in, outflow_in, updated_buf}
use Rattle.stage_tasks.proofs.updates.update_bufs.Given as goal

abbrev pub invariant-loop-buf : goal.invariant-loop-buf
invariant-loop-buf l = record {
  done : AreDoneTo (λ buf. updated_buf (mesh_in l.problem l.tree l.layout) (is_among l.kept buf.block buf.field) buf) l.buf-index l.initial.bufs l.bufs;
  left : drop l.next l.kept ≡ filter (among l.kept) (map place_of (drop l.buf-index l.initial.bufs));
  next_most : l.next ≤ length l.kept;
  flows : (f : ℕ) → slice_index_or l.flows.items f no_flow ≡ with_flow no_flow (sum_of_field (take l.buf-index l.initial.bufs) (inflow_in (mesh_in l.problem l.tree l.layout)) f) (sum_of_field (take l.buf-index l.initial.bufs) (outflow_in (mesh_in l.problem l.tree l.layout)) f);
  drops : (f : ℕ) → slice_index l.drops.items f ≡ sum_of_field (take l.buf-index l.initial.bufs) (dropped_of (mesh_in l.problem l.tree l.layout) l.kept) f;
  most_in : (f : ℕ) → (slice_index_or l.flows.items f no_flow).inflow ≤ l.buf-index * 2 ^ 87;
  most_out : (f : ℕ) → (slice_index_or l.flows.items f no_flow).outflow ≤ l.buf-index * 2 ^ 87;
  most_dropped : (f : ℕ) → slice_index l.drops.items f ≤ l.buf-index * 2 ^ 82;
  few_flows : length l.flows.items ≤ length l.problem.moves;
  few_drops : length l.drops.items ≤ length l.problem.moves;
}
