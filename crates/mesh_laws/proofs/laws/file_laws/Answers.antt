use Rattle.mesh_laws.proofs.StoppedFiles as stopped
use Rattle.mesh_laws.proofs.laws.file_laws.Goals as goal

pub returns-clause-stopped : goal.returns-clause-stopped
returns-clause-stopped c = stopped.files_of_stopped

pub returns-clause-at_start : goal.returns-clause-at_start
returns-clause-at_start c = stopped.no_files_at_start
