use Rattle.std.proofs.Common.{◌∙◌, ap}
use Rattle.cell_block.specs.Partitions.{OnShelves}
use Rattle.cell_block.specs.Store.{placed}
use Rattle.cell_block.proofs.KeptStates.{new_value}
use Rattle.cell_block.proofs.store.Store.new.Goals as goal

pub returns : goal.returns
returns c =
    ap (λ (s : OnShelves). placed s c.new-2.result) c.in_ok-shelves.ensures ∙ new_value c.new-2.result c.args.size c.args.leaves c.args.fields c.new-2.ensures.empty
