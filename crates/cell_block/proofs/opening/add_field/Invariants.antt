use Rattle.cell_block.specs.Whole.{AddsOn}
use Rattle.cell_block.proofs.opening.add_field.Given as goal

abbrev pub invariant-loop-block : goal.invariant-loop-block
invariant-loop-block l = AddsOn l.layout l.field l.block l.fn.store l.store
