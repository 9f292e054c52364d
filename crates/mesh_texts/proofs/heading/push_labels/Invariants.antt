use Rattle.std.proofs.Common.{◌≡◌, ◌++◌, take}
use Rattle.mesh_texts.specs.Pieces.{label_lines}
use Rattle.mesh_texts.proofs.heading.push_labels.Given as goal

abbrev pub invariant-loop-field : goal.invariant-loop-field
invariant-loop-field l = l.into.items ≡ l.initial.into.items ++ label_lines (take l.field-index l.fields)
