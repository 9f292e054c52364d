use Rattle.std.proofs.Common.{refl}
use Rattle.mesh_rules.specs.Run.{run, run_from}
use Rattle.mesh_rules.specs.Faces.{face_pair}
use Rattle.mesh_rules.specs.Look.{look}
use Rattle.mesh_rules.specs.Texts.{dump_text}
use Rattle.mesh_rules.specs.Files.{dump_file_name, history_file_name}
use Rattle.block_tree.specs.Leaves.{roots, leaves_of, inner_of}
use Rattle.block_tree.specs.Least.{forced}
use Rattle.mesh_rules.proofs.worked.worked_faces.Goals as goal

pub returns-clause-reflecting : goal.returns-clause-reflecting
unfolding run run_from face_pair look roots leaves_of inner_of forced dump_text dump_file_name history_file_name
returns-clause-reflecting c = (refl, refl, refl)

pub returns-clause-periodic : goal.returns-clause-periodic
unfolding run run_from face_pair look roots leaves_of inner_of forced dump_text dump_file_name history_file_name
returns-clause-periodic c = refl

pub returns-clause-second_order : goal.returns-clause-second_order
unfolding run run_from face_pair look roots leaves_of inner_of forced dump_text dump_file_name history_file_name
returns-clause-second_order c = (refl, refl, refl, refl, refl)

pub returns-clause-graded : goal.returns-clause-graded
unfolding run run_from face_pair look roots leaves_of inner_of forced dump_text dump_file_name history_file_name
returns-clause-graded c = (refl, refl, refl, refl)

pub returns-clause-opened : goal.returns-clause-opened
unfolding run run_from face_pair look roots leaves_of inner_of forced dump_text dump_file_name history_file_name
returns-clause-opened c = (refl, refl, refl, refl, refl, refl, refl)

pub returns-clause-finer_inflow : goal.returns-clause-finer_inflow
unfolding run run_from face_pair look roots leaves_of inner_of forced dump_text dump_file_name history_file_name
returns-clause-finer_inflow c = (refl, refl, refl, refl)

pub returns-clause-corner : goal.returns-clause-corner
unfolding run run_from face_pair look roots leaves_of inner_of forced dump_text dump_file_name history_file_name
returns-clause-corner c = (refl, refl, refl, refl, refl, refl)

pub returns-clause-third_axis : goal.returns-clause-third_axis
unfolding run run_from face_pair look roots leaves_of inner_of forced dump_text dump_file_name history_file_name
returns-clause-third_axis c = refl
