use Rattle.std.proofs.Common.{sym, ap, ◌∙◌}
use Rattle.std.specs.Option.{option_copied_mut}
use Rattle.input_file.proofs.PlaceLemmas.{set_in-map, SetInMap}
use Rattle.input_file.proofs.deck.Deck.set_in.Goals as goal

pub set_in-done : (c : goal.After-self-1) → SetInMap c.self.inside.blocks.entries c.args.self.now c.args.index c.set.new.self c.args.key.now c.args.value.now c.set.result
set_in-done c =
    set_in-map c.self.inside.blocks.entries c.args.self.now c.args.index c.unwrap-keys.result.now c.set.new.self c.args.key.now c.args.value.now c.set.result
    c.self.view_is c.self.invariant (sym c.get_index_mut.ensures.value ∙ ap option_copied_mut c.unwrap-keys.ensures) c.requires.key c.requires.value c.set.ensures.ok c.set.ensures.err

pub invariant_of-self : goal.invariant_of-self
invariant_of-self c = (set_in-done c).invariant

pub returns-clause-ok : goal.returns-clause-ok
returns-clause-ok c = (set_in-done c).ok

pub returns-clause-err : goal.returns-clause-err
returns-clause-err c = (set_in-done c).err

pub returns-clause-name : goal.returns-clause-name
returns-clause-name c = (set_in-done c).name
