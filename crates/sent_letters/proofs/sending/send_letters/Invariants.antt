use Rattle.std.proofs.Common.{◌≡◌, ◌++◌, map}
use Rattle.task_meshes.specs.Meshes.{mesh_of}
use Rattle.sent_letters.specs.Sent.{letters_sent}
use Rattle.sent_letters.proofs.Due.{rest_of, with_own}
use Rattle.sent_letters.proofs.sending.send_letters.Given as goal

-- what was sent, and what is left to send, is all
abbrev pub invariant-loop-block : goal.invariant-loop-block
invariant-loop-block l = l.sent ++ map (with_own l.kind (mesh_of l.on) l.stage l.bufs) (rest_of l.kind (mesh_of l.on) l.list l.block)
    ≡ letters_sent l.kind (mesh_of l.on) l.list l.stage l.bufs
