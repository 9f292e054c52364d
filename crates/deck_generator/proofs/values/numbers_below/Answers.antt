use Rattle.std.proofs.Common.{◌≡◌, ℕ, ◌∙◌, ap, subst, sym, true, arith}
use Rattle.input_file.specs.Texts.{Text, is_value}
use Rattle.std.specs.String.{string_bytes}
use Rattle.deck_generator.specs.Values.{numbers_below}
use Rattle.deck_generator.proofs.Formed.{is_value-safe, numbers-safe}
use Rattle.deck_generator.proofs.values.numbers_below.Goals as goal

pub returns-clause-formed : goal.returns-clause-formed
returns-clause-formed c =
    let all : c.loop-n.n ≡ c.args.count = omega (arith, c.loop-n-test.false, c.loop-n.auto.n-end) in
    let text : string_bytes c.loop-n.text ≡ numbers_below c.args.count = c.loop-n.invariant ∙ ap numbers_below all in
    subst (λ (t : Text). is_value t ≡ true) (sym text) (is_value-safe (numbers_below c.args.count) (numbers-safe c.args.count (omega (arith, c.ranges.count.fits))))
