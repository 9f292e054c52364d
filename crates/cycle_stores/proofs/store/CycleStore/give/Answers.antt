use Rattle.cycle_stores.proofs.Turns.{frees_ready, make_ready}
use Rattle.cycle_stores.proofs.store.CycleStore.give.Goals as goal

pub make-requires-clause-fits : goal.make-requires-clause-fits
make-requires-clause-fits c =
    make_ready c.args.self.now.state c.give_back-made.new.state c.args.left c.give_back-made.result c.give_back-made.ensures.back c.give_back-made.ensures.made c.requires.fits.made

pub free-requires-clause-fits : goal.free-requires-clause-fits
free-requires-clause-fits c =
    (frees_ready c.args.self.now.state c.give_back-made.new.state c.make.new.state c.args.left c.give_back-made.result c.args.freed.now c.as_slice.result.now c.give_back-made.ensures.back c.give_back-made.ensures.made
    c.make.ensures c.as_slice.ensures c.requires.fits.frees c.requires.fits.epoch).can

pub free-requires-clause-epoch : goal.free-requires-clause-epoch
free-requires-clause-epoch c =
    (frees_ready c.args.self.now.state c.give_back-made.new.state c.make.new.state c.args.left c.give_back-made.result c.args.freed.now c.as_slice.result.now c.give_back-made.ensures.back c.give_back-made.ensures.made
    c.make.ensures c.as_slice.ensures c.requires.fits.frees c.requires.fits.epoch).epoch
