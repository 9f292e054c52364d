use Rattle.std.proofs.Common.{◌≡◌, map, take}
use Rattle.morton_order.specs.Space.{parts}
use Rattle.dense_remesh.specs.Slots.{carried_slot}
use Rattle.dense_remesh.proofs.carried.field_slots.Given as goal

abbrev pub invariant-loop-origin : goal.invariant-loop-origin
invariant-loop-origin l = l.carried ≡ map (carried_slot (parts l.dims) l.slots) (take l.origin-index l.origins)
