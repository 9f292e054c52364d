use Rattle.std.proofs.Common.{◌≡◌, ◌<◌, ℕ, [], length}
use Rattle.std.specs.List.{slice_index_or}
use Rattle.std.specs.Prelude.{slice_index}
use Rattle.problem_set.specs.SettingsOf.{settings_of}
use Rattle.dense_mask.specs.Cuts.{AreCut, dropped_to, stays_on}
use Rattle.dense_mask.specs.Steps.{IsDoneTo}
use Rattle.dense_mask.proofs.cutting.cut.Given as goal

abbrev pub invariant-loop-field : goal.invariant-loop-field
invariant-loop-field l = record {
  lists : IsDoneTo (λ f list left. AreCut (stays_on (settings_of l.problem) f (slice_index_or l.slots f [])) list left) [] l.field l.fn.lists.items l.lists.items;
  as_many : length l.dropped.items ≡ length l.fn.lists.items;
  dropped : (f : ℕ) → f < l.field → slice_index l.dropped.items f ≡ dropped_to (stays_on (settings_of l.problem) f (slice_index_or l.slots f [])) (slice_index_or l.fn.lists.items f []) (length (slice_index_or l.fn.lists.items f []));
}
