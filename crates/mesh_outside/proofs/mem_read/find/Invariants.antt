use Rattle.std.proofs.Common.{◌≡◌, drop}
use Rattle.mesh_outside.specs.Files.{input_of}
use Rattle.mesh_outside.proofs.mem_read.find.Given as goal

abbrev pub invariant-loop-file : goal.invariant-loop-file
invariant-loop-file l = input_of l.inputs l.name ≡ input_of (drop l.file-index l.file-items) l.name
