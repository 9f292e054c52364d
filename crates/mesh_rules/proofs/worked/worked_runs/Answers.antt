use Rattle.std.proofs.Common.{refl, lit<}
use Rattle.std.proofs.lemmas.Fmt.{decimal_digit}
use Rattle.mesh_rules.specs.Run.{run, run_from}
use Rattle.mesh_rules.specs.Faces.{face_pair}
use Rattle.mesh_rules.specs.Look.{look}
use Rattle.mesh_rules.specs.Texts.{dump_text}
use Rattle.mesh_rules.specs.Files.{dump_file_name, history_file_name}
use Rattle.block_tree.specs.Leaves.{roots, leaves_of, inner_of}
use Rattle.block_tree.specs.Least.{forced}
use Rattle.mesh_rules.proofs.worked.worked_runs.Goals as goal

pub returns-clause-files : goal.returns-clause-files
unfolding run run_from face_pair look roots leaves_of inner_of forced dump_text dump_file_name history_file_name
returns-clause-files c = simp (decimal_digit 0 (lit< tt), decimal_digit 1 (lit< tt), decimal_digit 2 (lit< tt), decimal_digit 3 (lit< tt), decimal_digit 4 (lit< tt), decimal_digit 5 (lit< tt), decimal_digit 6 (lit< tt), decimal_digit 8 (lit< tt)) refl

pub returns-clause-drops : goal.returns-clause-drops
unfolding run run_from face_pair look roots leaves_of inner_of forced dump_text dump_file_name history_file_name
returns-clause-drops c = simp (decimal_digit 0 (lit< tt), decimal_digit 1 (lit< tt), decimal_digit 2 (lit< tt), decimal_digit 6 (lit< tt), decimal_digit 8 (lit< tt)) refl
