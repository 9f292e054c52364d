use Rattle.std.proofs.Common.{◌+◌, ◌-◌, ◌<◌, ◌≤◌, length, map, arith, subst, sym}
use Rattle.std.proofs.lemmas.List.{get_or_read, length-map}
use Rattle.alloc_epochs.specs.Pages.{keys_in}
use Rattle.alloc_epochs.specs.Shelf.{Shelved}
use Rattle.alloc_epochs.proofs.Keys.{no_row}
use Rattle.alloc_epochs.proofs.Next.{next_found, none_found}
use Rattle.alloc_epochs.proofs.shelf.Shelf.next_field.Goals as goal

pub returns-clause-found : goal.returns-clause-found
returns-clause-found c =
    let i = c.self.inside in
    let block = c.args.block in
    let from : i.first ≤ block = subst (λ (s : Shelved). s.first ≤ block) (sym c.self.view_is) c.requires.from_first in
    let there : block < i.first + length (map (keys_in i.fields) i.rows.items) = subst (λ (s : Shelved). block < s.first + length s.keys) (sym c.self.view_is) c.requires.block in
    let read = get_or_read i.rows.items (block - i.first) c.index.result.now (omega (arith, length-map i.rows.items (keys_in i.fields), from, there)) c.index.ensures no_row in
    next_found i.first i.fields i.epoch i.pool i.rows.items block c.args.from c.index.result.now c.args.self.now c.next_in_row.result c.self.view_is from (sym read) c.next_in_row.ensures.found

pub returns-clause-none : goal.returns-clause-none
returns-clause-none c =
    let i = c.self.inside in
    let block = c.args.block in
    let from : i.first ≤ block = subst (λ (s : Shelved). s.first ≤ block) (sym c.self.view_is) c.requires.from_first in
    let there : block < i.first + length (map (keys_in i.fields) i.rows.items) = subst (λ (s : Shelved). block < s.first + length s.keys) (sym c.self.view_is) c.requires.block in
    let read = get_or_read i.rows.items (block - i.first) c.index.result.now (omega (arith, length-map i.rows.items (keys_in i.fields), from, there)) c.index.ensures no_row in
    none_found i.first i.fields i.epoch i.pool i.rows.items block c.args.from c.index.result.now c.args.self.now c.next_in_row.result c.self.view_is from (sym read) c.next_in_row.ensures.none
