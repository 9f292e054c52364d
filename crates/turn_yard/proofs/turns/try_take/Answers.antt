use Rattle.std.proofs.Common.{rules}
use Rattle.turn_yard.proofs.Keeps.{numbered_takes}
use Rattle.turn_yard.proofs.turns.try_take.Goals as goal

pub compare_exchange-requires : goal.compare_exchange-requires
compare_exchange-requires g c = (c.requires.table.0, c.requires.table.1, numbered_takes _ _ _ _ _ _ (search rules) c.requires.seat)
