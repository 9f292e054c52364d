use Rattle.dense_cycle.proofs.Pushed.{passed_is, pushed}
use Rattle.dense_cycle.proofs.fields.StagedFields.push.Goals as goal

pub returns : goal.returns
returns c p m n has calls totals inflow outflow =
    pushed p m n c.args.self.now (record { lists = c.push.new.self; calls = c.push-2.new.self; passed = c.push-3.new.self }) c.args.advanced.totals c.args.calls
    (record { inflow = c.args.advanced.inflow; outflow = c.args.advanced.outflow }) has totals calls (passed_is p m n c.args.advanced.inflow c.args.advanced.outflow inflow outflow)
    c.in_ok-push.ensures.items c.in_ok-push-2.ensures.items c.in_ok-push-3.ensures.items
