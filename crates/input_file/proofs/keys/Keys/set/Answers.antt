use Rattle.std.proofs.Common.{◌≡◌, ◌∙◌, subst, refl}
use Rattle.std.specs.Str.{bytes_eq}
use Rattle.std.specs.String.{string_bytes}
use Rattle.indexmap.specs.IndexMap.{insert_entry}
use Rattle.input_file.specs.Blocks.{Entries}
use Rattle.input_file.proofs.EntryLemmas.{insert-seen, AreKeysAfter-insert_entry}
use Rattle.input_file.proofs.keys.Keys.set.Goals as goal

pub invariant_of-self-2 : goal.invariant_of-self-2
invariant_of-self-2 c =
    rw (insert-seen string_bytes c.self.inside.map.entries c.insert.new.self.entries c.in_ok-key.key c.in_ok-value.value c.args.key.now c.args.value.now c.in_ok-insert.ensures.entries c.in_ok-key.ensures.ok c.in_ok-value.ensures.ok)
    (AreKeysAfter-insert_entry _ _ c.args.key.now c.args.value.now c.self.invariant c.requires.key c.requires.value refl)

pub returns-clause-ok : goal.returns-clause-ok
returns-clause-ok c =
    insert-seen string_bytes c.self.inside.map.entries c.insert.new.self.entries c.in_ok-key.key c.in_ok-value.value c.args.key.now c.args.value.now c.in_ok-insert.ensures.entries c.in_ok-key.ensures.ok c.in_ok-value.ensures.ok
    ∙ subst (λ (v : Entries). insert_entry bytes_eq (Rattle.input_file.specs.contracts.keys.Keys.the_view c.self.inside) c.args.key.now c.args.value.now ≡ insert_entry bytes_eq v c.args.key.now c.args.value.now) c.self.view_is refl
