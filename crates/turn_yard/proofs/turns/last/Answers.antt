use Rattle.std.proofs.Common.{rules, sym, subst}
use Rattle.turn_yard.specs.Inside.{IsLast}
use Rattle.turn_yard.specs.Tells.{tells}
use Rattle.turn_yard.proofs.Closing.{some_same}
use Rattle.turn_yard.proofs.Opening.{first_closes}
use Rattle.turn_yard.proofs.turns.last.Goals as goal

pub unreachable-requires : goal.unreachable-requires
unreachable-requires g c = let l = first_closes _ _ _ _ _ _ c.requires.table.1 c.requires.all c.close_with-closed.ensures.values.2 c.take-slot.ensures.value in c.in_default.not-Some l.0 l.1

pub returns : goal.returns
returns g c = let l = first_closes _ _ _ _ _ _ c.requires.table.1 c.requires.all c.close_with-closed.ensures.values.2 c.take-slot.ensures.value in
    subst (IsLast (tells g.T.Entries.entries g.T.Entries.origin g.T.Entries.marks) c.args.own.me.0) (some_same _ _ _ l.1 c.in-Some.is) l.2
