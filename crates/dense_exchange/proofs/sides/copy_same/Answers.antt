use Rattle.std.proofs.Common.{◌≡◌, ◌∙◌, List, ℕ, ap, length, not, subst}
use Rattle.block_regions.specs.Written.{HasRegion}
use Rattle.ghost_buffers.specs.Ghosts.{ghost_cell, received}
use Rattle.ghost_buffers.specs.Parts.{part_of}
use Rattle.ghost_buffers.specs.declared.part.How.TheVariants.{Same}
use Rattle.dense_exchange.proofs.Beside.{copied_back, other_long}
use Rattle.dense_exchange.proofs.OnMeshes.{read_list, read_long}
use Rattle.dense_exchange.proofs.Received.{Meet}
use Rattle.dense_exchange.proofs.sides.copy_same.Goals as goal

pub copy_layers-requires-clause-sender : goal.copy_layers-requires-clause-sender
copy_layers-requires-clause-sender c = ap length c.as_slice.ensures ∙ other_long c.args.on.now c.args.from c.args.to c.args.ghosts.now.items c.replace-cells.new.dest c.index.result.now c.requires.ghosts c.requires.from c.requires.other c.index.ensures

pub copy_layers-requires-clause-cells : goal.copy_layers-requires-clause-cells
copy_layers-requires-clause-cells c = ap length c.replace-cells.ensures.value ∙ read_long c.args.on.now c.args.ghosts.now.items c.args.to c.index_mut.result.now c.requires.ghosts c.requires.to c.index_mut.ensures.value

pub returns : goal.returns
returns c =
    let e = c.args.on.now in
    let ghosts = c.args.ghosts.now.items in
    let meet : Meet e Same 0 c.args.side c.args.from c.args.to ghosts = record { on = c.requires.on; used = c.requires.axis; from_few = c.requires.from; to_few = c.requires.to; sender = c.requires.sender; held = c.requires.ghosts } in
    let read = subst (λ (v : List ℕ). HasRegion e.layout.now (received Same e.layout.now c.args.side.axis c.args.side.high 0) (ghost_cell Same e.layout.now c.args.side.axis (part_of Same e.layout.now c.args.side.axis (not c.args.side.high) 0 v)) c.copy_layers.new.cells) c.as_slice.ensures c.copy_layers.ensures.ghosts in
    copied_back e c.args.side c.args.from c.args.to ghosts c.replace-cells.new.dest c.index.result.now c.replace-cells.result c.copy_layers.new.cells meet c.requires.other c.index.ensures
    (c.replace-cells.ensures.value ∙ read_list e ghosts c.args.to c.index_mut.result.now c.requires.ghosts c.requires.to c.index_mut.ensures.value)
    c.copy_layers.ensures.long read c.copy_layers.ensures.others
