use Rattle.task_meshes.proofs.Alike.{meshes_are_alike}
use Rattle.task_meshes.proofs.laws.mesh_law.Goals as goal

pub returns : goal.returns
returns c = meshes_are_alike
