use Rattle.sent_letters.proofs.Due.{sent_more}
use Rattle.sent_letters.proofs.sending.send_block.Goals as goal

pub loop-axis-preserved : goal.loop-axis-preserved
loop-axis-preserved c =
    sent_more c.args.from.now c.loop-axis.axis c.args.sent.now c.loop-axis.sent c.send_across.new.sent c.send_across-in-loop-axis.new.sent c.loop-axis.invariant
    (c.in_ok-send_across.ensures {u = tt}) (c.in_ok-send_across-2.ensures {u = tt})
