use Rattle.std.proofs.Common.{◌≡◌, ◌≤◌, ◌*◌, ◌^◌}
use Rattle.dense_mask.specs.SlotSteps.{slot_on}
use Rattle.dense_mask.specs.Cuts.{AreCutTo, dropped_to}
use Rattle.dense_mask.proofs.cutting.cut_blocks.Given as goal

abbrev pub invariant-loop-leaf : goal.invariant-loop-leaf
invariant-loop-leaf l = record {
  blocks : AreCutTo (λ leaf. (slot_on l.slots leaf).kept) l.leaf l.fn.blocks.items l.blocks.items;
  dropped : l.dropped ≡ dropped_to (λ leaf. (slot_on l.slots leaf).kept) l.fn.blocks.items l.leaf;
  small : l.dropped ≤ l.leaf * 2 ^ 64;
}
