use Rattle.std.proofs.Common.{sym}
use Rattle.mesh_settings.proofs.GridLemmas.{get_or-none}
use Rattle.mesh_settings.proofs.grid.wraps_at.Goals as goal

pub returns-in-None : goal.returns-in-None
returns-in-None c = rw (get_or-none c.args.faces.now c.args.at _ (sym c.in-None.ensures.value))
