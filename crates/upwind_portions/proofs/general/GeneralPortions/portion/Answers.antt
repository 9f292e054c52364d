use Rattle.std.proofs.Common.{ℕ, ◌*◌, ◌/◌, ◌<◌, ◌^◌, ◌∙◌, ap, arith, lit<}
use Rattle.upwind_portions.proofs.Multipliers.{in_words, multiplier_is_exact, product_at_most}
use Rattle.upwind_portions.proofs.general.GeneralPortions.portion.Goals as goal

pub returns : goal.returns
returns c =
    let s = c.args.self.now in
    let q = c.args.total in
    let small : q * s.denominator < 2 ^ 92 = omega (arith, product_at_most q s.denominator 4611686018427387903 1000000000 c.requires s.most) in
    rw (c.from-whole.ensures, c.from.ensures, c.from-2.ensures)
    (in_words q s.high s.low (2 ^ 64) (2 ^ 28) (lit< tt)
    ∙ ap (λ (n : ℕ). q * n / 2 ^ 92) s.scaled
    ∙ multiplier_is_exact (2 ^ 92) q s.rate s.denominator s.positive small)
