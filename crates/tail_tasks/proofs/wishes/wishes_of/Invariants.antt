use Rattle.std.proofs.Common.{◌≡◌, ◌-◌, ◌<◌, ◌≤◌, ℕ, length, map, max}
use Rattle.std.specs.List.{range_with_len}
use Rattle.lent_bufs.specs.Meshes.{mesh_in}
use Rattle.lent_bufs.proofs.Each.{buf_at}
use Rattle.tail_tasks.specs.Wishes.{wish_on}
use Rattle.tail_tasks.proofs.wishes.wishes_of.Given as goal

abbrev pub invariant-loop-block : goal.invariant-loop-block
invariant-loop-block l = record {
  wishes : l.wishes.items ≡ map (wish_on (mesh_in l.problem l.tree l.layout) l.bufs) (range_with_len l.first (l.block - l.first));
  most : l.block ≤ max l.first l.end;
  within : l.at ≤ length l.bufs;
  before : (k : ℕ) → k < l.at → (buf_at l.bufs k).block < l.block;
  after : (k : ℕ) → l.at ≤ k → k < length l.bufs → l.block ≤ (buf_at l.bufs k).block;
}
