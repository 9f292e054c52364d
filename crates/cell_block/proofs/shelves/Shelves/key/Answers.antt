use Rattle.std.proofs.Common.{◌≡◌, ◌∙◌, ap, subst, sym, ◌/◌, None, Option, ℕ, arith}
use Rattle.std.proofs.lemmas.List.{get_or_read}
use Rattle.alloc_epochs.specs.Shelf.{Shelved, key_at}
use Rattle.cell_block.specs.Partitions.{OnShelves, key_on, no_shelf}
use Rattle.cell_block.proofs.Partitions.{in_list, key_is, no_key_past}
use Rattle.cell_block.proofs.shelves.Shelves.key.Goals as goal

pub returns-then-at-self : goal.returns-then-at-self
returns-then-at-self c =
    let i = c.self.inside in
    let at = c.args.at in
    let read = get_or_read i.shelves.items (at.block / i.size) c.index.result.now (omega (arith, c.self.invariant.count, (in_list i.size i.leaves at.block c.self.invariant.some c.if-at-self.true).list)) c.index.ensures no_shelf in
    subst (λ (s : OnShelves). c.key.result ≡ key_on s.keys at) c.self.view_is
    (c.key.ensures ∙ ap (λ (s : Shelved). key_at s at) read ∙ key_is i.size i.leaves i.fields i.shelves.items at c.if-at-self.true)

pub returns-else-at-self : goal.returns-else-at-self
returns-else-at-self c =
    let i = c.self.inside in
    let none : Option ℕ = None in
    subst (λ (s : OnShelves). none ≡ key_on s.keys c.args.at) c.self.view_is (sym (no_key_past i.size i.leaves i.fields i.shelves.items c.args.at c.if-at-self.false))
