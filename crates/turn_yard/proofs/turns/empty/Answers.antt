use Rattle.std.proofs.Common.{Option, Some, List, ◌∷◌, ℕ, sym, ap, ◌∙◌}
use Rattle.atomic_table.specs.Table.{rest}
use Rattle.turn_yard.proofs.turns.empty.Goals as goal

pub exchange-slot-requires : goal.exchange-slot-requires
exchange-slot-requires g c = let e = c.requires.slot.1 in (c.requires.table, (Some c.requires.slot.0, e ∙ ap (λ (l : List (ℕ × Option g.row.T.Denot)). (0, Some c.requires.slot.0) ∷ rest l) (sym e)))
