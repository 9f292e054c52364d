use Rattle.std.proofs.Common.{◌≡◌, ◌∙◌, subst, IsTrue, sym, arith}
use Rattle.input_file.specs.Texts.{Text, is_block_name}
use Rattle.deck_generator.specs.Generated.{box_name}
use Rattle.deck_generator.proofs.Formed.{is_box_name}
use Rattle.deck_generator.proofs.blocks.add_box.Goals as goal

pub add_settings-requires-clause-block : goal.add_settings-requires-clause-block
add_settings-requires-clause-block c =
    let name : c.as_str.result.now ≡ box_name c.args.i = c.as_str.ensures.value ∙ c.in_ok-name.ensures.ok in
    rw name (is_box_name c.args.i (omega (arith, c.requires.field)))

pub returns : goal.returns
returns c =
    let name : c.as_str.result.now ≡ box_name c.args.i = c.as_str.ensures.value ∙ c.in_ok-name.ensures.ok in
    rw (← name) c.add_settings.ensures
