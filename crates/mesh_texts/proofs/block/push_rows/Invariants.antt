use Rattle.std.proofs.Common.{◌≡◌, ◌++◌}
use Rattle.mesh_rules.specs.Texts.{rows}
use Rattle.mesh_texts.specs.Sizes.{row_width}
use Rattle.mesh_texts.proofs.block.push_rows.Given as goal

abbrev pub invariant-loop-row : goal.invariant-loop-row
invariant-loop-row l = l.into.items ≡ l.initial.into.items ++ rows (row_width l.layout) l.row l.totals
