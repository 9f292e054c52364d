use Rattle.std.proofs.Common.{ℕ, List, not, length, ap, subst, sym, ◌∙◌}
use Rattle.block_regions.specs.Written.{StaysOffRegion}
use Rattle.ghost_buffers.specs.Ghosts.{received}
use Rattle.ghost_buffers.specs.Parts.{PartBelow, part_of}
use Rattle.mesh_rules.specs.Mask.{some_above}
use Rattle.dense_exchange.proofs.OnMeshes.{read_list, read_long}
use Rattle.dense_exchange.proofs.Received.{Meet, part_is, part_long, received_is, sums_small}
use Rattle.dense_exchange.proofs.sides.receive.Goals as goal

pub fill-requires-clause-small : goal.fill-requires-clause-small
fill-requires-clause-small c =
    subst (λ (v : List ℕ). PartBelow 4611686018427387904 c.args.how c.args.on.now.layout.now c.args.side.axis (not c.args.side.high) c.args.half v)
    (sym (c.as_slice.ensures ∙ read_list c.args.on.now c.args.ghosts.now.items c.args.from c.index.result.now c.requires.ghosts c.requires.from c.index.ensures))
    (sums_small c.args.on.now c.args.how c.args.half c.args.side c.args.from c.args.to c.args.ghosts.now.items
    (record { on = c.requires.on; used = c.requires.axis; from_few = c.requires.from; to_few = c.requires.to; sender = c.requires.sender; held = c.requires.ghosts }))

pub give_part-requires-clause-part : goal.give_part-requires-clause-part
give_part-requires-clause-part c =
    ap length (c.as_slice-2.ensures ∙ c.in_ok-part.ensures)
    ∙ part_long c.args.how c.args.on.now.layout.now c.args.side.axis (not c.args.side.high) c.args.half c.as_slice.result.now

pub give_part-requires-clause-cells : goal.give_part-requires-clause-cells
give_part-requires-clause-cells c = read_long c.args.on.now c.args.ghosts.now.items c.args.to c.index_mut.result.now c.requires.ghosts c.requires.to c.index_mut.ensures.value

pub returns-clause-received : goal.returns-clause-received
returns-clause-received c =
    let e = c.args.on.now in
    let ghosts = c.args.ghosts.now.items in
    let made = ap (part_of c.args.how e.layout.now c.args.side.axis (not c.args.side.high) c.args.half) (c.as_slice.ensures ∙ read_list e ghosts c.args.from c.index.result.now c.requires.ghosts c.requires.from c.index.ensures) in
    let here = read_list e ghosts c.args.to c.index_mut.result.now c.requires.ghosts c.requires.to c.index_mut.ensures.value in
    let meet : Meet e c.args.how c.args.half c.args.side c.args.from c.args.to ghosts = record { on = c.requires.on; used = c.requires.axis; from_few = c.requires.from; to_few = c.requires.to; sender = c.requires.sender; held = c.requires.ghosts } in
    received_is e c.args.how c.args.half c.args.side c.args.from c.args.to ghosts c.as_slice-2.result.now c.give_part.new.cells meet
    (c.as_slice-2.ensures ∙ c.in_ok-part.ensures ∙ made ∙ part_is e c.args.how c.args.half c.args.side c.args.from c.args.to ghosts meet)
    (c.give_part.ensures.long ∙ ap length here)
    c.give_part.ensures.ghosts
    (subst (λ (v : List ℕ). StaysOffRegion e.layout.now (received c.args.how e.layout.now c.args.side.axis c.args.side.high c.args.half) v c.give_part.new.cells) here c.give_part.ensures.others)

pub returns-clause-above : goal.returns-clause-above
returns-clause-above c =
    let e = c.args.on.now in
    let ghosts = c.args.ghosts.now.items in
    let made = ap (part_of c.args.how e.layout.now c.args.side.axis (not c.args.side.high) c.args.half) (c.as_slice.ensures ∙ read_list e ghosts c.args.from c.index.result.now c.requires.ghosts c.requires.from c.index.ensures) in
    c.has_above.ensures
    ∙ ap (some_above e.problem.now.alloc_threshold)
    (c.as_slice-3.ensures ∙ c.in_ok-part.ensures ∙ made
    ∙ part_is e c.args.how c.args.half c.args.side c.args.from c.args.to ghosts
    (record { on = c.requires.on; used = c.requires.axis; from_few = c.requires.from; to_few = c.requires.to; sender = c.requires.sender; held = c.requires.ghosts }))
