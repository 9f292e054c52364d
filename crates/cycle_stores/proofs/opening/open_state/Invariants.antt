use Rattle.cycle_stores.proofs.OpenedPlaces.{OpensBelow}
use Rattle.cycle_stores.proofs.opening.open_state.Given as goal

abbrev pub invariant-loop-block : goal.invariant-loop-block
invariant-loop-block l = OpensBelow l.fn.state l.state l.block
