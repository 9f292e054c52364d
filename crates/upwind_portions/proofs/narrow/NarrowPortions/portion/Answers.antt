use Rattle.std.proofs.Common.{◌^◌}
use Rattle.upwind_portions.proofs.Multipliers.{multiplier_is_exact, small_too}
use Rattle.upwind_portions.proofs.narrow.NarrowPortions.portion.Goals as goal

pub returns : goal.returns
returns c =
    let s = c.args.self.now in
    let small = small_too c.args.total s.greatest s.denominator (2 ^ 32) c.requires s.small in
    rw (c.from.ensures, c.from-2.ensures, s.scaled) (multiplier_is_exact (2 ^ 32) c.args.total s.rate s.denominator s.positive small)
