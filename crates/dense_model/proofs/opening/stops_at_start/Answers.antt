use Rattle.std.proofs.Common.{subst}
use Rattle.block_tree.specs.Blocks.{RefusedAtStart}
use Rattle.block_tree.specs.declared.fault.TreeFault.{TreeFault}
use Rattle.mesh_rules.specs.Opening.{opening_tree}
use Rattle.dense_model.proofs.Runs.{opens_stopped}
use Rattle.dense_model.proofs.opening.stops_at_start.Goals as goal

pub returns-in-TooManyAtStart : goal.returns-in-TooManyAtStart
returns-in-TooManyAtStart c p refused = opens_stopped p (subst (λ (f : TreeFault). RefusedAtStart p.shape (opening_tree p) f) c.in-TooManyAtStart.is refused)
