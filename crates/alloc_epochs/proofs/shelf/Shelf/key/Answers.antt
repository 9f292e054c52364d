use Rattle.std.proofs.Common.{◌≡◌, ◌∙◌, sym, ap, subst, ℕ, ◌-◌, Option, None, List, arith}
use Rattle.std.proofs.lemmas.List.{get_or_read}
use Rattle.alloc_epochs.specs.Pages.{key_in}
use Rattle.alloc_epochs.specs.Shelf.{Shelved, key_at}
use Rattle.alloc_epochs.proofs.Keys.{key_before, key_beyond, key_is, no_row}
use Rattle.alloc_epochs.proofs.shelf.Shelf.key.Goals as goal
use Rattle.alloc_epochs.proofs.shelf.Shelf.key.Goals.{then-at-self-via-then-at-self, then-at-self-via-else-at-self+then-at-self-2}

pub returns-then-at-self : goal.returns-then-at-self
returns-then-at-self c =
    let at = c.args.at in
    let i = c.self.inside in
    let P = λ (s : Shelved). None ≡ key_at s at in
    elim c.then-at-self.branch [
      | then-at-self-via-then-at-self w ↦ subst P c.self.view_is (sym (key_before i.first i.fields i.epoch i.pool i.rows.items at w.if-at-self.true))
      | then-at-self-via-else-at-self+then-at-self-2 w ↦ subst P c.self.view_is (sym (key_beyond i.first i.fields i.epoch i.pool i.rows.items at w.if-at-self.false w.if-at-self-2.true))
    ]

pub returns-then-row-len : goal.returns-then-row-len
returns-then-row-len c =
    let at = c.args.at in
    let i = c.self.inside in
    subst (λ (s : Shelved). c.get.result ≡ key_at s at) c.self.view_is
    (c.get.ensures ∙ (ap (λ (row : List (List (Option ℕ))). key_in row at.field) (get_or_read i.rows.items (at.block - i.first) c.index.result.now (omega (arith, c.if-row-len.true, c.len.ensures)) c.index.ensures no_row)
    ∙ sym (key_is i.first i.fields i.epoch i.pool i.rows.items at c.if-at-self.false c.if-at-self-2.false)))
