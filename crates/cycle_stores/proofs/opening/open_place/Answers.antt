use Rattle.cycle_stores.proofs.FreshPlaces.{fresh_place}
use Rattle.cycle_stores.proofs.opening.open_place.Goals as goal

pub returns : goal.returns
returns c =
    fresh_place c.args.state.now c.take_out-was.new.self c.put_back.new.self c.args.at c.take_out-was.result c.in_ok-buf.buf c.layout.result.now
    c.take_out-was.ensures.buffer c.take_out-was.ensures.place c.take_out-was.ensures.lent (record { dims = c.layout.ensures.dims; cells = c.layout.ensures.cells }) c.in_ok-buf.ensures.fresh c.put_back.ensures
