use Rattle.std.proofs.Common.{◌≡◌, ◌∙◌, sym, subst, ◌-◌, ◌/◌, ◌<◌, length, Some, None, Option, List, ℕ}
use Rattle.std.proofs.lemmas.List.{get_or_read}
use Rattle.alloc_epochs.specs.Pages.{Changes}
use Rattle.alloc_epochs.specs.Shelf.{Shelved, IsOn, key_at}
use Rattle.alloc_epochs.proofs.Keys.{no_row}
use Rattle.alloc_epochs.proofs.Changed.{block_there, is_on, page_there, shelf_changed}
use Rattle.alloc_epochs.proofs.shelf.Shelf.release.Goals as goal

pub clear-requires : goal.clear-requires
clear-requires c =
    let at = c.args.at in
    let i = c.self.inside in
    let on = is_on i.first i.fields i.epoch i.pool i.rows.items at c.in_ok-key.key (subst (λ (s : Shelved). key_at s at ≡ Some c.in_ok-key.key) (sym c.self.view_is) (sym c.key.ensures ∙ c.in_ok-key.was)) in
    let there = block_there i.first i.fields i.epoch i.pool i.rows.items at on in
    let read = get_or_read i.rows.items (at.block - i.first) c.index_mut-row.result.now there c.index_mut-row.ensures.value no_row in
    record { within = subst (λ (row : List (List (Option ℕ))). at.field / 32 < length row) (sym read) (page_there i.first i.fields i.rows.items (at.block - i.first) at.field c.self.invariant there on.field) }

pub returns-clause-released : goal.returns-clause-released
returns-clause-released c =
    let at = c.args.at in
    let i = c.self.inside in
    let on = is_on i.first i.fields i.epoch i.pool i.rows.items at c.in_ok-key.key (subst (λ (s : Shelved). key_at s at ≡ Some c.in_ok-key.key) (sym c.self.view_is) (sym c.key.ensures ∙ c.in_ok-key.was)) in
    let there = block_there i.first i.fields i.epoch i.pool i.rows.items at on in
    let read = get_or_read i.rows.items (at.block - i.first) c.index_mut-row.result.now there c.index_mut-row.ensures.value no_row in
    shelf_changed i.first i.fields i.epoch i.pool c.clear.new.pool i.rows.items at c.clear.new.self None c.args.self.now c.self.view_is (subst (λ (s : Shelved). IsOn s at) c.self.view_is on)
    (subst (λ (row : List (List (Option ℕ))). Changes row c.clear.new.self at.field None) read c.clear.ensures.changes)
