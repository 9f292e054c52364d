use Rattle.std.proofs.Common.{◌≡◌, ℕ, ap, ◌∙◌, refl}
use Rattle.deck_generator.specs.Generated.{next_drawn, drawn}
use Rattle.deck_generator.proofs.blocks.add_pool.Goals as goal

second_drawn : (seed a b : ℕ) → a ≡ next_drawn seed → b ≡ next_drawn a → (a ≡ drawn seed 1) × (b ≡ drawn seed 2)
unfolding drawn
second_drawn seed a b e f = (e, f ∙ ap next_drawn e)

pub returns : goal.returns
returns c =
    let p = second_drawn c.args.seed c.next_drawn-first.result c.next_drawn-second.result c.next_drawn-first.ensures.value c.next_drawn-second.ensures.value in
    rw (← p.0, ← p.1) c.add_pool_settings.ensures
