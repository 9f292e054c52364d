use Rattle.mesh_laws.proofs.RemapMeshes as meshes
use Rattle.mesh_laws.proofs.Remaps as remaps
use Rattle.mesh_laws.proofs.laws.remap_laws.Goals as goal

pub returns-clause-totals : goal.returns-clause-totals
returns-clause-totals c = remaps.remap_keeps_totals

pub returns-clause-mesh : goal.returns-clause-mesh
returns-clause-mesh c = meshes.remap_is_mesh
