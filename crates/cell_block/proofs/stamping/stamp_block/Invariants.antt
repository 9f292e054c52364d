use Rattle.std.proofs.Common.{◌≡◌, ◌-◌, ℕ}
use Rattle.std.specs.Option.{option_map}
use Rattle.slab.specs.Slab.{get}
use Rattle.cell_block.specs.Store.{room_in, stamped_below}
use Rattle.cell_block.proofs.stamping.stamp_block.Given as goal

abbrev pub invariant-loop-next : goal.invariant-loop-next
invariant-loop-next l = record {
  room : room_in l.buffers ≡ room_in l.fn.buffers;
  each : (key : ℕ) → get l.buffers key ≡ option_map (stamped_below l.block l.from) (get l.fn.buffers key);
}

abbrev pub decreases-loop-next : goal.decreases-loop-next
decreases-loop-next l = l.shelves.fields - l.from
