-- What the sparse machine over a row does at the place that a slot shows.
use Rattle.std.proofs.Common.{◌≡◌, ℕ, ◌+◌, ◌-◌, ◌/◌, false, refl, ap, ◌∙◌}
use Rattle.row_machine.specs.declared.slot.Slot.{Slot}
use Rattle.row_machine.specs.Slots.{ReleasesAs, TurnsInto}

pub release_as : (s : Slot) → ReleasesAs s (record s { leased = false })
release_as s l b f h = record { buffer = h.buffer; leased = refl; kept = h.kept; idle = h.idle; dropped = h.dropped }

pub turns_into : (first second : ℕ) → TurnsInto first second (first - first / 2) (second + first / 2)
turns_into first second v e d = (ap (λ n. n - n / 2) e, ap (λ n. n + v 0 / 2) d ∙ ap (λ n. second + n / 2) e)
