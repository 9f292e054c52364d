use Rattle.std.proofs.Common.{refl}
use Rattle.mesh_rules.specs.Run.{run, run_from}
use Rattle.mesh_rules.specs.Faces.{face_pair}
use Rattle.mesh_rules.specs.Look.{look}
use Rattle.mesh_rules.specs.Texts.{dump_text}
use Rattle.mesh_rules.specs.Files.{dump_file_name, history_file_name}
use Rattle.block_tree.specs.Leaves.{roots, leaves_of, inner_of}
use Rattle.block_tree.specs.Least.{forced}
use Rattle.mesh_rules.proofs.worked.worked_cycles.Goals as goal

pub returns-clause-sent : goal.returns-clause-sent
unfolding run run_from face_pair look roots leaves_of inner_of forced dump_text dump_file_name history_file_name
returns-clause-sent c = (refl, refl, refl)

pub returns-clause-below : goal.returns-clause-below
unfolding run run_from face_pair look roots leaves_of inner_of forced dump_text dump_file_name history_file_name
returns-clause-below c = (refl, refl)

pub returns-clause-dropped_in_stage : goal.returns-clause-dropped_in_stage
unfolding run run_from face_pair look roots leaves_of inner_of forced dump_text dump_file_name history_file_name
returns-clause-dropped_in_stage c = (refl, refl, refl, refl, refl, refl)

pub returns-clause-dropped_at_check : goal.returns-clause-dropped_at_check
unfolding run run_from face_pair look roots leaves_of inner_of forced dump_text dump_file_name history_file_name
returns-clause-dropped_at_check c = (refl, refl, refl)

pub returns-clause-reacts : goal.returns-clause-reacts
unfolding run run_from face_pair look roots leaves_of inner_of forced dump_text dump_file_name history_file_name
returns-clause-reacts c = (refl, refl, refl, refl, refl, refl)

pub returns-clause-reacts_back : goal.returns-clause-reacts_back
unfolding run run_from face_pair look roots leaves_of inner_of forced dump_text dump_file_name history_file_name
returns-clause-reacts_back c = (refl, refl, refl, refl)

pub returns-clause-dropped_after_reaction : goal.returns-clause-dropped_after_reaction
unfolding run run_from face_pair look roots leaves_of inner_of forced dump_text dump_file_name history_file_name
returns-clause-dropped_after_reaction c = (refl, refl, refl, refl)

pub returns-clause-peak : goal.returns-clause-peak
unfolding run run_from face_pair look roots leaves_of inner_of forced dump_text dump_file_name history_file_name
returns-clause-peak c = (refl, refl, refl)

pub returns-clause-jump : goal.returns-clause-jump
unfolding run run_from face_pair look roots leaves_of inner_of forced dump_text dump_file_name history_file_name
returns-clause-jump c = (refl, refl)

pub returns-clause-merge : goal.returns-clause-merge
unfolding run run_from face_pair look roots leaves_of inner_of forced dump_text dump_file_name history_file_name
returns-clause-merge c = (refl, refl, refl, refl)

pub returns-clause-root : goal.returns-clause-root
unfolding run run_from face_pair look roots leaves_of inner_of forced dump_text dump_file_name history_file_name
returns-clause-root c = (refl, refl)
