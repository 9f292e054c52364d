use Rattle.std.proofs.Common.{◌≡◌}
use Rattle.problem_set.specs.Settings.{Settings}
use Rattle.mesh_rules.specs.Sums.{table}
use Rattle.mesh_rules.specs.Fields.{field_count}
use Rattle.mesh_rules.specs.Mesh.{total_of}
use Rattle.mesh_rules.specs.Cycle.{State}
use Rattle.cell_block.specs.Rules.{StandsFor}
use Rattle.dump_writer.specs.History.{row_of}
use Rattle.dump_writer.proofs.history.rows_after.Given as goal

abbrev pub invariant-loop-field : goal.invariant-loop-field
invariant-loop-field l = (p : Settings) (c : State) → StandsFor p l.mesh c → l.totals ≡ table (field_count p) (total_of c.mesh) → l.rows ≡ table l.field (row_of l.cycle (record { state = c; flows = l.flows; drops = l.drops }))
