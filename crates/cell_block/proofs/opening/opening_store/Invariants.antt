use Rattle.std.proofs.Common.{◌≡◌}
use Rattle.problem_set.specs.SettingsOf.{settings_of}
use Rattle.mesh_rules.specs.Fields.{field_count}
use Rattle.cell_block.specs.Whole.{AreOpened}
use Rattle.cell_block.proofs.opening.opening_store.Given as goal

abbrev pub invariant-loop-field : goal.invariant-loop-field
invariant-loop-field l = record {
  size : l.store.size ≡ l.size;
  opened : AreOpened (settings_of l.problem) l.layout l.leaves (field_count (settings_of l.problem)) l.field l.store;
}
