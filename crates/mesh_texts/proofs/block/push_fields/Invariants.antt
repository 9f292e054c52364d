use Rattle.std.proofs.Common.{◌≡◌, ◌++◌, take}
use Rattle.std.specs.List.{enumerate_from}
use Rattle.problem_set.specs.SettingsOf.{settings_of}
use Rattle.mesh_texts.specs.Sizes.{leaf_lists}
use Rattle.mesh_texts.specs.Pieces.{numbered_lines}
use Rattle.mesh_texts.proofs.block.push_fields.Given as goal

abbrev pub invariant-loop-field : goal.invariant-loop-field
invariant-loop-field l = l.into.items ≡ l.initial.into.items ++ numbered_lines (settings_of l.problem) l.layout (take l.field (enumerate_from 0 (leaf_lists l.lists l.leaf)))
