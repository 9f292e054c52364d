use Rattle.std.proofs.Common.{◌≡◌, ◌∙◌, true, refl, arith}
use Rattle.input_file.specs.Texts.{is_key}
use Rattle.deck_generator.specs.Values.{is_formed}
use Rattle.deck_generator.specs.Settings.{is_setting, with_settings}
use Rattle.deck_generator.proofs.Formed.{and_true}
use Rattle.deck_generator.proofs.Building.{passes-at, settings-more}
use Rattle.deck_generator.proofs.settings.add_settings.Goals as goal

pub loop-key-init : goal.loop-key-init
unfolding with_settings
loop-key-init c = refl

pub set-requires-clause-value : goal.set-requires-clause-value
set-requires-clause-value c =
    rw c.as_str.ensures.value (c.in_ok-text.ensures.formed (and_true _ _ (passes-at is_setting c.args.settings.now c.loop-key.key-index _ c.requires.settings c.loop-key-test.true)).1)

pub loop-key-preserved : goal.loop-key-preserved
loop-key-preserved c =
    settings-more c.args.settings.now c.loop-key.key-index _ c.args.deck.now c.loop-key.deck c.set.new.self c.args.block.now c.as_str.result.now c.loop-key-test.true c.loop-key.invariant c.in_ok-set.ensures.ok (c.as_str.ensures.value ∙ c.in_ok-text.ensures.value)
