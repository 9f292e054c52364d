use Rattle.std.proofs.Common.{arith}
use Rattle.mesh_input.proofs.ReadLemmas.{file-too-long}
use Rattle.mesh_input.proofs.file.read_file.Goals as goal

pub returns-clause-file : goal.returns-clause-file
returns-clause-file g c =
    file-too-long (g.D.Depot.seen c.args.depot.now).inputs c.args.name.now c.loop-from.reader c.loop-from.from 1048576 (omega arith) c.loop-from.invariant.1
