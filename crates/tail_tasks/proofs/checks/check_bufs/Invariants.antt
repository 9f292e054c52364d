use Rattle.std.proofs.Common.{◌≡◌, ◌*◌, ◌^◌, ◌≤◌, ℕ, length, map, drop, filter}
use Rattle.std.specs.Prelude.{slice_index}
use Rattle.lent_bufs.specs.Buffers.{place_of}
use Rattle.lent_bufs.specs.Meshes.{mesh_in}
use Rattle.lent_bufs.proofs.Keeps.{among}
use Rattle.tail_tasks.proofs.Checked.{AreCheckedTo}
use Rattle.tail_tasks.proofs.checks.check_bufs.Given as goal

abbrev pub invariant-loop-at : goal.invariant-loop-at
invariant-loop-at l = record {
  done : AreCheckedTo (mesh_in l.problem l.tree l.layout) l.kept l.bufs l.counts l.at l.next_counts.items l.freed.items l.drops.items;
  left : drop l.next l.kept ≡ filter (among l.kept) (map place_of (drop l.at l.bufs));
  next_most : l.next ≤ length l.kept;
  most_dropped : (f : ℕ) → slice_index l.drops.items f ≤ l.at * 2 ^ 82;
  few_drops : length l.drops.items ≤ length l.problem.moves;
}
