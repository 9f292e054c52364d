use Rattle.std.proofs.Common.{◌≡◌, ◌≤◌, ◌+◌, ◌-◌, vec_len}
use Rattle.mesh_outside.specs.Depot.{AfterReads}
use Rattle.mesh_input.specs.FileRead.{HasReadFront}
use Rattle.mesh_input.proofs.file.read_file.Given as goal

abbrev pub decreases-loop-from : goal.decreases-loop-from
decreases-loop-from g l = 1048576 + 1 - l.from

abbrev pub invariant-loop-from : goal.invariant-loop-from
invariant-loop-from g l =
    AfterReads l.name ⊥ (g.D.Depot.seen l.fn.depot) (g.D.Depot.seen l.depot)
    × HasReadFront (g.D.Depot.seen l.fn.depot).inputs l.name l.reader l.from
    × (l.from ≤ 1048577)
    × (vec_len l.buffer ≡ 65536)
