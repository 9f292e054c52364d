use Rattle.std.proofs.Common.{◌≡◌, ◌≤◌, ◌-◌, ◌++◌}
use Rattle.alloc_epochs.specs.Rows.{row_places}
use Rattle.alloc_epochs.specs.Shelf.{takes}
use Rattle.alloc_epochs.proofs.listing.list_row.Given as goal

abbrev pub invariant-loop-field : goal.invariant-loop-field
invariant-loop-field l = record { within : l.field ≤ l.count; places : l.places.items ≡ l.fn.places.items ++ row_places l.row (takes l.fields.fields l.kind) l.block l.field }

abbrev pub decreases-loop-field : goal.decreases-loop-field
decreases-loop-field l = l.count - l.field
