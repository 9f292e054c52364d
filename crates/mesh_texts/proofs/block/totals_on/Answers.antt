use Rattle.mesh_texts.proofs.Appended.{past_end}
use Rattle.mesh_texts.proofs.block.totals_on.Goals as goal

pub returns-in-None : goal.returns-in-None
returns-in-None c = past_end c.args.list.now c.args.leaf c.in-None.ensures.value
