use Rattle.alloc_epochs.specs.Shelf.{place_on}
use Rattle.cycle_stores.proofs.FreshPlaces.{has_buffer}
use Rattle.cycle_stores.proofs.OpenedPlaces.{opens_all, opens_next}
use Rattle.cycle_stores.proofs.opening.open_block.Goals as goal

pub open_place-requires : goal.open_place-requires
open_place-requires c =
    let at = place_on c.args.block c.in-Some.field in
    has_buffer c.loop-field.state at c.in-Some.ensures.found.there (c.loop-field.invariant.whole at)

pub loop-field-preserved : goal.loop-field-preserved
loop-field-preserved c =
    opens_next c.args.state.now c.loop-field.state c.open_place.new.state c.args.block c.loop-field.from c.in-Some.field c.loop-field.invariant c.in-Some.ensures.found c.in_ok-open_place.ensures

pub returns : goal.returns
returns c = opens_all c.args.state.now c.loop-field.state c.args.block c.loop-field.from c.loop-field.invariant c.in_default.ensures.none c.tree.ensures.kept c.requires.block
