use Rattle.std.proofs.Common.{ℕ, ◌*◌, ◌/◌, ◌<◌, ◌^◌, ◌∙◌, ap, arith, lit<}
use Rattle.upwind_portions.proofs.Multipliers.{in_words, multiplier_is_exact, product_at_most}
use Rattle.upwind_portions.proofs.middle.MiddlePortions.portion.Goals as goal

pub returns : goal.returns
returns c =
    let s = c.args.self.now in
    let q = c.args.total in
    let small : q * s.denominator < 2 ^ 62 = omega (arith, product_at_most q s.denominator 4294967295 1000000000 c.requires s.most) in
    rw (c.from-small.ensures, c.from.ensures, c.from-2.ensures)
    (in_words q s.high s.low (2 ^ 32) (2 ^ 30) (lit< tt)
    ∙ ap (λ (n : ℕ). q * n / 2 ^ 62) s.scaled
    ∙ multiplier_is_exact (2 ^ 62) q s.rate s.denominator s.positive small)
