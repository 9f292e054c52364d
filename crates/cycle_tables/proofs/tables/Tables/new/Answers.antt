use Rattle.std.proofs.Common.{ap}
use Rattle.cycle_tables.specs.Letters.{Sent}
use Rattle.cycle_tables.proofs.Started.{start_by, started_by}
use Rattle.cycle_tables.proofs.tables.Tables.new.Goals as goal

pub invariant_of-result : goal.invariant_of-result
invariant_of-result g c =
    started_by c.args.rounds c.args.tail c.args.due.now c.in_ok-lists.lists.items c.as_slice.result.now c.new-2.result.posts c.in_ok-mail.mail.items c.as_slice-2.result.now c.mark_all.new.ready c.requires.rounds c.requires.tasks c.requires.lists
    c.in_ok-lists.ensures c.in_ok-mail.ensures (ap (λ (s : Sent g.row.T.Denot). s.posts) c.new-2.ensures) c.as_slice.ensures.value c.as_slice-2.ensures.value c.mark_all.ensures.length c.mark_all.ensures.marks

pub returns : goal.returns
returns g c =
    start_by c.args.rounds c.args.tail c.args.due.now c.in_ok-lists.lists.items c.new-2.result.posts c.in_ok-mail.mail.items c.in_ok-lists.ensures c.in_ok-mail.ensures (ap (λ (s : Sent g.row.T.Denot). s.posts) c.new-2.ensures)
