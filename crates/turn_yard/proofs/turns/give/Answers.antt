use Rattle.std.proofs.Common.{rules, List, ◌∷◌, ℕ, Option, Some, ap, ◌∙◌}
use Rattle.atomic_table.specs.Table.{rest}
use Rattle.turn_yard.specs.Steps.{Sat}
use Rattle.turn_yard.proofs.Keeps.{filled_gives}
use Rattle.turn_yard.proofs.turns.give.Goals as goal

pub store-requires : goal.store-requires
store-requires g c = let e = c.exchange-slot.ensures in (
  e.0 ∙ c.requires.table.0,
  c.requires.table.1,
  filled_gives _ _ _ _ _ c.args.value (e.3 ∙ ap {B = Sat g.row.T.Denot} (λ (l : List (ℕ × Option g.row.T.Denot)). (c.args.seat.now.me.0, (0, Some c.args.value) ∷ rest l)) c.requires.seat.2)
      c.requires.seat.0 c.requires.seat.1 c.requires.origin c.requires.entries c.requires.marks,
)
