use Rattle.std.proofs.Common.{refl, ◌∙◌}
use Rattle.kernel_cases.proofs.LevelParts.{fluxes_long, fluxes_small}
use Rattle.kernel_cases.proofs.corrections.correct_lists.Goals as goal

pub gather-requires-clause-right_small : goal.gather-requires-clause-right_small
gather-requires-clause-right_small c = fluxes_small c.args.layout.now c.facing.result.axis c.facing.result.high c.args.right.now c.args.layout.now.sound.most (c.if-not-are_small.ensures refl)

pub gather-requires-clause-left_small : goal.gather-requires-clause-left_small
gather-requires-clause-left_small c = fluxes_small c.args.layout.now c.facing.result.axis c.facing.result.high c.args.left.now c.args.layout.now.sound.most (c.if-not-are_small-2.ensures refl)

pub replace-requires-clause-part : goal.replace-requires-clause-part
replace-requires-clause-part c =
    fluxes_long c.args.layout.now c.facing.result.axis c.args.side.axis c.facing.result.high c.args.right.now c.args.left.now c.as_slice.result.now c.facing.ensures (c.as_slice.ensures ∙ c.in_ok-part.ensures)
