use Rattle.std.proofs.Common.{◌≡◌, map, take}
use Rattle.mesh_rules.specs.Opening.{static_of}
use Rattle.dense_model.proofs.opening.static_boxes.Given as goal

abbrev pub invariant-loop-part : goal.invariant-loop-part
invariant-loop-part l = l.boxes.items ≡ map static_of (take l.part-index l.part-items)
