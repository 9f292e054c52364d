use Rattle.std.proofs.Common.{refl, ◌∙◌}
use Rattle.kernel_cases.proofs.LevelParts.{part_long, part_small}
use Rattle.kernel_cases.proofs.letters.receive.Goals as goal

pub fill-requires-clause-small : goal.fill-requires-clause-small
fill-requires-clause-small c = part_small c.args.how c.args.layout.now c.facing.result.axis c.facing.result.high c.args.half c.args.sender.now c.args.layout.now.sound.most (c.if-not-are_small.ensures refl)

pub unfill-requires-clause-part : goal.unfill-requires-clause-part
unfill-requires-clause-part c =
    part_long c.args.how c.args.layout.now c.facing.result.axis c.args.side.axis c.facing.result.high c.args.half c.args.sender.now c.as_slice.result.now c.facing.ensures (c.as_slice.ensures ∙ c.in_ok-part.ensures)
