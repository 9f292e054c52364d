use Rattle.std.proofs.Common.{◌<◌, length, subst, sym, List, slice_set}
use Rattle.cycle_tables.specs.Letters.{Box}
use Rattle.cycle_tables.specs.Inside.{MakesRoom}
use Rattle.cycle_tables.proofs.Boxes.{box_reserved}
use Rattle.cycle_tables.proofs.mailbox.Mailboxes.reserve.Goals as goal

pub returns-clause-room : goal.returns-clause-room
returns-clause-room g c =
    let boxes = c.self.inside.by_round.items in let new = c.reserve.new.self in
    subst (λ (v : List (Box g.row.T.Denot)). MakesRoom v (slice_set boxes c.args.round new)) c.self.view_is
    (box_reserved boxes c.args.round c.index_mut-mailbox.result.now new
    (subst (λ (v : List (Box g.row.T.Denot)). c.args.round < length v) (sym c.self.view_is) c.requires) c.index_mut-mailbox.ensures.value c.reserve.ensures.letters c.reserve.ensures.room)
