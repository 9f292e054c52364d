use Rattle.std.proofs.Common.{◌≡◌, ◌||◌, ap, sym}
use Rattle.std.proofs.lemmas.Result.{IfOk-weaker}
use Rattle.dense_exchange.specs.Sides.{comes_beyond}
use Rattle.dense_exchange.proofs.Filled.{or_else}
use Rattle.dense_exchange.proofs.sides.fill_next.Goals as goal

pub returns-then-not-before-clause-above : goal.returns-then-not-before-clause-above
returns-then-not-before-clause-above c =
    let comes = comes_beyond c.args.on.now c.args.side c.args.to in
    IfOk-weaker c.fill_side.result (λ above. above ≡ comes) (λ above. above ≡ (c.args.before || comes)) (λ above is. or_else c.args.before comes above c.if-not-before.true is) c.fill_side.ensures.above

pub returns-clause-above : goal.returns-clause-above
returns-clause-above c = sym (ap (λ b. b || comes_beyond c.args.on.now c.args.side c.args.to) c.if-not-before.false)
