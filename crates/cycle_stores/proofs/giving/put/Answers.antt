use Rattle.std.proofs.Common.{sym}
use Rattle.cycle_stores.proofs.Changes.{filled_again, filled_new}
use Rattle.cycle_stores.proofs.Turns.{fits_lent}
use Rattle.cycle_stores.proofs.giving.put.Goals as goal

pub returns-then-allocated-clause-changed : goal.returns-then-allocated-clause-changed
returns-then-allocated-clause-changed c =
    filled_again c.args.state.now c.take_out-former.new.self c.put_back.new.self c.args.list c.place_of-at.result c.args.buf c.place_of-at.ensures (sym c.if-allocated.ensures) c.take_out-former.ensures.lent c.put_back.ensures

pub returns-else-allocated-clause-changed : goal.returns-else-allocated-clause-changed
returns-else-allocated-clause-changed c =
    filled_new c.args.state.now c.add.new.self c.args.list c.place_of-at.result c.args.buf c.tree.ensures.kept c.requires.within.block c.requires.list c.place_of-at.ensures (sym c.if-allocated.ensures) c.add.ensures.added

pub put_back-requires-clause-sizes : goal.put_back-requires-clause-sizes
put_back-requires-clause-sizes c = fits_lent c.args.state.now c.take_out-former.new.self c.place_of-at.result c.args.buf c.take_out-former.ensures.lent c.requires.sizes
