use Rattle.std.proofs.Common.{◌≡◌, sym, ap, ◌∙◌, length}
use Rattle.std.proofs.lemmas.List.{length-map}
use Rattle.input_file.proofs.PlaceLemmas.{with_block-present, name_at-new}
use Rattle.input_file.proofs.deck.Deck.add_block.Goals as goal

pub returns-in-Some-clause-ok : goal.returns-in-Some-clause-ok
returns-in-Some-clause-ok c = sym (with_block-present c.args.self.now c.args.name.now c.in-Some.index c.in-Some.ensures.found)

pub returns-in_ok-insert-in-None-clause-index : goal.returns-in_ok-insert-in-None-clause-index
returns-in_ok-insert-in-None-clause-index c =
    let len : c.len-index.result ≡ length c.args.self.now = c.len-index.ensures.len ∙ sym (length-map c.self.inside.blocks.entries _) ∙ ap length c.self.view_is in
    rw (c.in_ok-insert-in-None.ensures.ok, len) (name_at-new c.args.self.now c.args.name.now _ c.in-None.ensures.absent)
