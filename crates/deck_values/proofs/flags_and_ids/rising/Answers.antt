use Rattle.std.proofs.Common.{◌∙◌, ◌+◌, sym, arith, drop, List, ℕ, ap}
use Rattle.deck_values.specs.FlagsAndIds.{rising_after}
use Rattle.deck_values.proofs.EachSome.{rising_more, rising_stop}
use Rattle.deck_values.proofs.flags_and_ids.rising.Goals as goal

pub returns-then-not-branch : goal.returns-then-not-branch
returns-then-not-branch c =
    rising_stop c.args.ids.now c.loop-id.id-index c.loop-id.risen.keys (omega arith) c.loop-id.invariant (sym c.if-not-branch.true ∙ c.in_ok-insert.ensures.added)

pub loop-id-preserved : goal.loop-id-preserved
loop-id-preserved c =
    rising_more c.args.ids.now c.loop-id.id-index c.loop-id.risen.keys (omega arith) c.loop-id.invariant (sym c.if-not-branch.false ∙ c.in_ok-insert.ensures.added)
    ∙ ap (λ (keys : List ℕ). rising_after keys (drop (c.loop-id.id-index + 1) c.args.ids.now)) (sym c.in_ok-insert.ensures.keys)
