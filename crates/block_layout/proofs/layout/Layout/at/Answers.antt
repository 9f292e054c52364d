use Rattle.block_layout.proofs.Boxes.{number_bound}
use Rattle.block_layout.specs.Layouts.{widths}
use Rattle.block_layout.proofs.layout.Layout.at.Goals as goal

pub returns-clause-within : goal.returns-clause-within
returns-clause-within c = rw (c.width.ensures.value, c.width-2.ensures.value) (number_bound (widths c.args.self.now) c.args.i c.requires)
