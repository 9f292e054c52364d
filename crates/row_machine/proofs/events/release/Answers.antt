use Rattle.row_machine.proofs.Kept.{release_as}
use Rattle.row_machine.proofs.events.release.Goals as goal

pub returns : goal.returns
returns c = release_as c.args.slot
