use Rattle.std.proofs.Common.{refl, arith}
use Rattle.deck_generator.proofs.blocks.add_pool_settings.Goals as goal

pub add_settings-requires-clause-settings : goal.add_settings-requires-clause-settings
add_settings-requires-clause-settings c = rw (c.speed.ensures.formed, c.speed-2.ensures.formed) refl

pub returns : goal.returns
returns c = rw (← c.speed.ensures.value, ← c.speed-2.ensures.value) c.add_settings.ensures
