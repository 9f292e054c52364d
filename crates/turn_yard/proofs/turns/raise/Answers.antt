use Rattle.std.proofs.Common.{rules, arith, ap, length, length-set}
use Rattle.turn_yard.proofs.Histories.{rises_at}
use Rattle.turn_yard.proofs.Keeps.{raises}
use Rattle.turn_yard.proofs.turns.raise.Goals as goal

pub mark-requires : goal.mark-requires
mark-requires g c = let r = rises_at _ _ _ _ c.in-Some.is c.requires.marks in let l = ap length r.2 in let i = r.0 in let s = length-set c.args.seat.now.me.0.known.noted c.in-Some.p in omega (arith, s)

pub store-requires : goal.store-requires
store-requires g c = let r = rises_at _ _ _ _ c.in-Some.is c.requires.marks in let i = r.0 in let u = r.1 in let w = c.requires.table.1 in let m = c.mark.ensures in
    (c.requires.table.0, omega arith, raises _ _ _ _ _ _ _ c.requires.seat.0 c.requires.seat.1 r.0 (omega arith))
