use Rattle.std.proofs.Common.{◌≡◌, [], slice_index, slice_set}
use Rattle.dense_mask.specs.Steps.{IsDoneTo}
use Rattle.dense_reaction.proofs.cell.scatter.Given as goal

abbrev pub invariant-loop-field : goal.invariant-loop-field
invariant-loop-field l = IsDoneTo (λ f before after. after ≡ slice_set before l.place (slice_index l.cell f)) [] l.field l.fn.rows.items l.rows.items
