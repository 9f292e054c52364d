use Rattle.std.proofs.Common.{◌-◌}
use Rattle.cycle_stores.proofs.OpenedPlaces.{OpensTo}
use Rattle.cycle_stores.proofs.opening.open_block.Given as goal

abbrev pub invariant-loop-field : goal.invariant-loop-field
invariant-loop-field l = OpensTo l.fn.state l.state l.block l.from

abbrev pub decreases-loop-field : goal.decreases-loop-field
decreases-loop-field l = l.state.fields - l.from
