use Rattle.row_machine.proofs.Kept.{turns_into}
use Rattle.row_machine.proofs.events.turn.Goals as goal

pub returns : goal.returns
returns c = turns_into c.args.first c.args.second
