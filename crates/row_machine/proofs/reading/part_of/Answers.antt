use Rattle.std.proofs.Common.{◌<◌, ◌≤◌, false, length, arith, sym, ◌∙◌}
use Rattle.row_machine.proofs.PartReads.{total_at, total_none}
use Rattle.row_machine.proofs.reading.part_of.Goals as goal

pub returns-then-wanted : goal.returns-then-wanted
returns-then-wanted c = λ w.
    let low : c.loop-part.part-index < length c.args.mail.now = omega arith in
    total_at w c.args.round c.args.block c.args.high c.args.mail.now c.loop-part.part-index (record { number = 0; round = 0; block = 0; high = false; total = 0 }) low (sym c.wanted.ensures ∙ c.if-wanted.true) c.loop-part.invariant

pub returns : goal.returns
returns c = λ w.
    let past : length c.args.mail.now ≤ c.loop-part.part-index = omega arith in
    total_none w c.args.round c.args.block c.args.high c.args.mail.now c.loop-part.part-index past c.loop-part.invariant
