use Rattle.std.proofs.Common.{arith}
use Rattle.turn_yard.proofs.Keeps.{looks}
use Rattle.turn_yard.proofs.turns.look.Goals as goal

pub load-requires : goal.load-requires
load-requires g c = let w = c.requires.table.1 in let p = c.requires.partition in (c.requires.table.0, omega arith, looks _ _ _ _ _ _ c.requires.seat c.requires.partition)
