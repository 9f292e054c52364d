use Rattle.std.proofs.Common.{ap, ◌∙◌}
use Rattle.block_layout.specs.Indices.{count_of}
use Rattle.dump_writer.proofs.block.push_field_at.Goals as goal

pub interior-requires-clause-home : goal.interior-requires-clause-home
interior-requires-clause-home c = c.requires.stored.whole c.args.at

pub interior-requires-clause-fits : goal.interior-requires-clause-fits
interior-requires-clause-fits c = c.requires.cells ∙ ap count_of c.requires.layout.cells
