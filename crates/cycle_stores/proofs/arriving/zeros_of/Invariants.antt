use Rattle.std.proofs.Common.{◌≡◌, filter, map, take}
use Rattle.block_layout.specs.declared.layout.Layout.{Layout}
use Rattle.problem_set.specs.SettingsOf.{settings_of}
use Rattle.cell_block.specs.State.{HasLayout}
use Rattle.cycle_stores.specs.Arrivals.{makes, zeros_for}
use Rattle.cycle_stores.proofs.arriving.zeros_of.Given as goal

abbrev pub invariant-loop-part : goal.invariant-loop-part
invariant-loop-part l = (lay : Layout) → HasLayout l.state lay
    → l.bufs.items ≡ map (zeros_for lay l.letter.to l.stamp) (filter (makes (settings_of l.problem) l.state l.letter.to) (take l.part-index l.part-items))
