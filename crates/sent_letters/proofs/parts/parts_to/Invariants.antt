use Rattle.std.proofs.Common.{◌≡◌, map, take}
use Rattle.task_meshes.specs.Meshes.{mesh_of}
use Rattle.sent_letters.specs.Sent.{letter_to, part_sent}
use Rattle.sent_letters.proofs.parts.parts_to.Given as goal

abbrev pub invariant-loop-k : goal.invariant-loop-k
invariant-loop-k l = l.parts ≡ map (part_sent l.from.kind (mesh_of l.from.on.now) (letter_to l.from l.side l.to)) (take l.k l.from.bufs.now)
