use Rattle.std.proofs.Common.{◌≡◌, ◌∙◌, subst, refl}
use Rattle.std.specs.Str.{bytes_eq}
use Rattle.indexmap.specs.IndexMap.{insert_entry}
use Rattle.input_file.specs.Blocks.{Entries, Blocks}
use Rattle.input_file.proofs.EntryLemmas.{insert-seen, AreBlocksAfter-insert_entry}
use Rattle.input_file.proofs.deck.Deck.insert.Goals as goal

pub invariant_of-self-2 : goal.invariant_of-self-2
invariant_of-self-2 c =
    rw (insert-seen (λ (es : Entries). es) c.self.inside.blocks.entries c.insert.new.self.entries c.in_ok-name.name c.args.keys c.args.name.now c.args.keys c.in_ok-insert.ensures.entries c.in_ok-name.ensures.ok refl)
    (AreBlocksAfter-insert_entry _ _ c.args.name.now c.args.keys c.self.invariant c.requires.name c.requires.keys refl)

pub returns-clause-ok : goal.returns-clause-ok
returns-clause-ok c =
    insert-seen (λ (es : Entries). es) c.self.inside.blocks.entries c.insert.new.self.entries c.in_ok-name.name c.args.keys c.args.name.now c.args.keys c.in_ok-insert.ensures.entries c.in_ok-name.ensures.ok refl
    ∙ subst (λ (v : Blocks). insert_entry bytes_eq (Rattle.input_file.specs.contracts.deck.Deck.the_view c.self.inside) c.args.name.now c.args.keys ≡ insert_entry bytes_eq v c.args.name.now c.args.keys) c.self.view_is refl
