use Rattle.dump_writer.specs.History.{row_of}
use Rattle.dump_writer.proofs.Rows.{rows_more}
use Rattle.dump_writer.proofs.history.rows_after.Goals as goal

pub loop-field-preserved : goal.loop-field-preserved
loop-field-preserved c p s stands same =
    rows_more c.loop-field.field (row_of c.args.cycle (record { state = s; flows = c.args.flows.now; drops = c.args.drops.now })) c.loop-field.rows c.push.new.self c.row_after.result
    (c.loop-field.invariant p s stands same) (c.row_after.ensures p s stands same) c.in_ok-push.ensures.ok
