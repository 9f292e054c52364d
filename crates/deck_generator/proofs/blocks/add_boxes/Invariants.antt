use Rattle.std.proofs.Common.{◌≡◌, ◌<◌, ◌+◌, ◌*◌, ◌^◌}
use Rattle.deck_generator.specs.Generated.{drawn}
use Rattle.deck_generator.specs.Settings.{with_boxes}
use Rattle.deck_generator.proofs.blocks.add_boxes.Given as goal

abbrev pub invariant-loop-i : goal.invariant-loop-i
invariant-loop-i l = record {
  last : l.r ≡ drawn l.seed (2 + 2 * l.i);
  most : l.r < 2 ^ 31;
  boxes : l.deck ≡ with_boxes l.form l.seed l.initial.deck l.i;
}
