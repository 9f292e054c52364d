use Rattle.dense_reaction.specs.Blocks.{Gathered}
use Rattle.dense_reaction.proofs.cell.gather.Given as goal

abbrev pub invariant-loop-field : goal.invariant-loop-field
invariant-loop-field l = Gathered l.rows l.place l.field l.cell l.sum
