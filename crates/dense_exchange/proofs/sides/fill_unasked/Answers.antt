use Rattle.std.proofs.lemmas.Result.{on_ok_weaker}
use Rattle.dense_exchange.proofs.Arms.{told_same}
use Rattle.dense_exchange.proofs.Filled.{same_fills}
use Rattle.dense_exchange.proofs.sides.fill_unasked.Goals as goal

pub receive_same-requires-clause-from : goal.receive_same-requires-clause-from
receive_same-requires-clause-from c = (told_same c.args.on.now c.args.side c.args.to c.in-Same.from c.requires.to c.in-Same.ensures).few

pub receive_same-requires-clause-sender : goal.receive_same-requires-clause-sender
receive_same-requires-clause-sender c = (told_same c.args.on.now c.args.side c.args.to c.in-Same.from c.requires.to c.in-Same.ensures).is

pub returns-in-Same : goal.returns-in-Same
returns-in-Same c =
    let e = c.args.on.now in
    let one = told_same e c.args.side c.args.to c.in-Same.from c.requires.to c.in-Same.ensures in
    on_ok_weaker c.receive_same.result (same_fills e 0 c.args.side c.in-Same.from c.args.to c.args.ghosts.now.items c.receive_same.new.ghosts.items c.requires.on c.requires.axis c.requires.to one.is) c.receive_same.ensures
