use Rattle.std.proofs.Common.{◌≡◌, ◌++◌, length}
use Rattle.problem_set.specs.SettingsOf.{settings_of}
use Rattle.mesh_rules.specs.Cycle.{State}
use Rattle.mesh_rules.specs.Texts.{dump_text}
use Rattle.mesh_texts.specs.Dump.{joined}
use Rattle.cell_block.specs.Rules.{StandsFor}
use Rattle.dump_writer.proofs.dump.dump_text.Given as goal

abbrev pub invariant-pieces : goal.invariant-pieces
invariant-pieces l = (c : State) → StandsFor (settings_of l.problem) l.mesh c → l.text.items ++ joined l.walk ≡ dump_text (settings_of l.problem) c.mesh l.cycle

abbrev pub decreases-pieces : goal.decreases-pieces
decreases-pieces l = length l.walk
