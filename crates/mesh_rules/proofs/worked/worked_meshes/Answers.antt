use Rattle.std.proofs.Common.{refl}
use Rattle.mesh_rules.specs.Run.{run, run_from}
use Rattle.mesh_rules.specs.Faces.{face_pair}
use Rattle.mesh_rules.specs.Look.{look}
use Rattle.mesh_rules.specs.Texts.{dump_text}
use Rattle.mesh_rules.specs.Files.{dump_file_name, history_file_name}
use Rattle.block_tree.specs.Leaves.{roots, leaves_of, inner_of}
use Rattle.block_tree.specs.Least.{forced}
use Rattle.mesh_rules.proofs.worked.worked_meshes.Goals as goal

pub returns-clause-shares : goal.returns-clause-shares
unfolding run run_from face_pair look roots leaves_of inner_of forced dump_text dump_file_name history_file_name
returns-clause-shares c = refl

pub returns-clause-looks : goal.returns-clause-looks
unfolding run run_from face_pair look roots leaves_of inner_of forced dump_text dump_file_name history_file_name
returns-clause-looks c = (refl, refl, refl, refl, refl)

pub returns-clause-regions : goal.returns-clause-regions
unfolding run run_from face_pair look roots leaves_of inner_of forced dump_text dump_file_name history_file_name
returns-clause-regions c = (refl, refl, refl, refl)

pub returns-clause-plane : goal.returns-clause-plane
unfolding run run_from face_pair look roots leaves_of inner_of forced dump_text dump_file_name history_file_name
returns-clause-plane c = (refl, refl, refl)

pub returns-clause-letters : goal.returns-clause-letters
unfolding run run_from face_pair look roots leaves_of inner_of forced dump_text dump_file_name history_file_name
returns-clause-letters c = (refl, refl)
