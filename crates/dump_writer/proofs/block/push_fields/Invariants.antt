use Rattle.std.proofs.Common.{◌≡◌, ◌-◌, length}
use Rattle.block_layout.specs.Layouts.{interior_len}
use Rattle.problem_set.specs.SettingsOf.{settings_of}
use Rattle.mesh_rules.specs.Texts.{is_zero}
use Rattle.dump_writer.specs.Blocks.{interiors_on}
use Rattle.dump_writer.proofs.Blocks.{numbered}
use Rattle.dump_writer.proofs.Shown.{HasShown}
use Rattle.dump_writer.proofs.block.push_fields.Given as goal

abbrev pub invariant-loop-field : goal.invariant-loop-field
invariant-loop-field l = record {
  shown : HasShown (numbered (settings_of l.problem) l.layout) is_zero (interiors_on l.layout l.mesh l.leaf) l.from l.zeros l.fn.lines.items l.lines.items;
  room : length l.cells ≡ interior_len l.layout;
}

abbrev pub decreases-loop-field : goal.decreases-loop-field
decreases-loop-field l = l.mesh.fields - l.from
