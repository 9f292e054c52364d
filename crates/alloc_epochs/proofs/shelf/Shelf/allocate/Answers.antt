use Rattle.std.proofs.Common.{sym, subst, ◌-◌, Some, Option, List, ℕ}
use Rattle.std.proofs.lemmas.List.{get_or_read}
use Rattle.alloc_epochs.specs.Pages.{Changes}
use Rattle.alloc_epochs.specs.Shelf.{Shelved, IsOn}
use Rattle.alloc_epochs.proofs.Keys.{no_row}
use Rattle.alloc_epochs.proofs.Changed.{block_there, shelf_changed}
use Rattle.alloc_epochs.proofs.shelf.Shelf.allocate.Goals as goal

pub returns-clause-allocated : goal.returns-clause-allocated
returns-clause-allocated c =
    let at = c.args.at in
    let i = c.self.inside in
    let on = subst (λ (s : Shelved). IsOn s at) (sym c.self.view_is) c.requires.on in
    let read = get_or_read i.rows.items (at.block - i.first) c.index_mut-row.result.now (block_there i.first i.fields i.epoch i.pool i.rows.items at on) c.index_mut-row.ensures.value no_row in
    shelf_changed i.first i.fields i.epoch i.pool c.set.new.pool i.rows.items at c.set.new.self (Some c.args.key) c.args.self.now c.self.view_is c.requires.on
    (subst (λ (row : List (List (Option ℕ))). Changes row c.set.new.self at.field (Some c.args.key)) read c.set.ensures.changes)
