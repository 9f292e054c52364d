use Rattle.std.proofs.Common.{◌≡◌, ◌≤◌, ◌+◌, ◌-◌, vec_len}
use Rattle.mesh_outside.specs.Depot.{AfterReads}
use Rattle.mesh_outside.proofs.ReadSoFar.{IsRead}
use Rattle.mesh_outside.proofs.reading.read_input.Given as goal

abbrev pub decreases-loop-bytes : goal.decreases-loop-bytes
decreases-loop-bytes g l = l.limit + 1 - vec_len l.bytes

abbrev pub invariant-loop-bytes : goal.invariant-loop-bytes
invariant-loop-bytes g l =
    AfterReads l.name ⊥ (g.D.Depot.seen l.fn.depot) (g.D.Depot.seen l.depot)
    × IsRead (g.D.Depot.seen l.fn.depot).inputs l.name l.bytes.items
    × (vec_len l.bytes ≤ l.limit + 1)
    × (vec_len l.buffer ≡ 65536)
