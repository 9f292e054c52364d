use Rattle.dense_mesh.proofs.Lists as lists
use Rattle.dense_mesh.proofs.laws.mesh_law.Goals as goal

pub returns : goal.returns
returns c = lists.field_lists_are_meshes
