use Rattle.std.proofs.Common.{◌≡◌, ℕ, ◌≤◌, List, length}
use Rattle.std.specs.List.{slice_index_or}
use Rattle.field_bufs.specs.declared.buf.FieldBuf.{FieldBuf}
use Rattle.remesh.specs.Carries.{AreCarriedTo}
use Rattle.remesh.proofs.parallel.store_leaves.Given as goal

abbrev pub invariant-loop-number : goal.invariant-loop-number
invariant-loop-number l = record {
  done : AreCarriedTo l.layout l.old l.origins l.fn.mesh l.mesh l.number;
  long : length l.all.items ≡ length l.fn.all.items;
  rest : (k : ℕ) (d : List FieldBuf) → l.number ≤ k → slice_index_or l.all.items k d ≡ slice_index_or l.fn.all.items k d;
}
