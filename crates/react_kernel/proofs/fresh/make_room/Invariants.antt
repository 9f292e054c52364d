use Rattle.std.proofs.Common.{length}
use Rattle.react_kernel.specs.BlockSteps.{AreFresh, HasRoom}
use Rattle.react_kernel.proofs.fresh.make_room.Given as goal

abbrev pub invariant-loop-field : goal.invariant-loop-field
invariant-loop-field l = record {
  fresh : AreFresh l.layout l.fresh.block l.fresh.stamp (length l.cell) l.bufs l.made.items;
  room : HasRoom l.field l.cell l.bufs l.fn.made.items l.made.items;
}
