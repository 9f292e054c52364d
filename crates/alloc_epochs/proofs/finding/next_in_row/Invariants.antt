use Rattle.std.proofs.Common.{◌≡◌, ◌<◌, ◌≤◌, ◌-◌, ℕ, None}
use Rattle.alloc_epochs.specs.Pages.{key_in}
use Rattle.alloc_epochs.proofs.finding.next_in_row.Given as goal

abbrev pub invariant-loop-field : goal.invariant-loop-field
invariant-loop-field l = record { from : l.from ≤ l.field; none : (f : ℕ) → l.from ≤ f → f < l.field → f < l.count → key_in l.row f ≡ None }

abbrev pub decreases-loop-field : goal.decreases-loop-field
decreases-loop-field l = l.count - l.field
