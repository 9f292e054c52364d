use Rattle.std.proofs.Common.{◌≡◌, take, map}
use Rattle.deck_generator.specs.Settings.{setting_of, with_settings}
use Rattle.deck_generator.proofs.settings.add_settings.Given as goal

abbrev pub invariant-loop-key : goal.invariant-loop-key
invariant-loop-key l = l.deck ≡ with_settings l.initial.deck l.block (take l.key-index (map setting_of l.settings))
