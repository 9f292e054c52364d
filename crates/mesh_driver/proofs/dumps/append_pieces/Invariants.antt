use Rattle.std.proofs.Common.{length}
use Rattle.std.specs.Option.{ForSome}
use Rattle.mesh_outside.specs.Depot.{AfterWrites}
use Rattle.mesh_outside.specs.Gained.{IsOpen}
use Rattle.mesh_texts.specs.Dump.{joined}
use Rattle.mesh_driver.proofs.Passing.{Midway}
use Rattle.mesh_driver.proofs.dumps.append_pieces.Given as goal

abbrev pub decreases-pieces : goal.decreases-pieces
decreases-pieces g l = length l.walk

abbrev pub invariant-pieces : goal.invariant-pieces
invariant-pieces g l = record {
  midway : Midway (joined l.fn.walk) l.buffer.items l.walk (g.D.Depot.seen l.fn.depot).written (g.D.Depot.seen l.depot).written;
  unfinished : ForSome (g.D.Depot.seen l.depot).written IsOpen;
  after : AfterWrites ⊥ (g.D.Depot.seen l.fn.depot) (g.D.Depot.seen l.depot);
}
