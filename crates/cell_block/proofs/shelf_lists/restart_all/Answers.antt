use Rattle.std.proofs.Common.{◌∙◌, ap, length, map, drop, List, arith}
use Rattle.std.proofs.lemmas.List.{take_at, length-map}
use Rattle.alloc_epochs.specs.Shelf.{Shelved}
use Rattle.cell_block.specs.Partitions.{restarted}
use Rattle.cell_block.proofs.shelf_lists.restart_all.Goals as goal

pub returns : goal.returns
returns c =
    let is = c.restart_each.ensures ∙ ap (map restarted) c.deref_mut.ensures.value in
    take_at c.restart_each.new.shelves (drop (length c.restart_each.new.shelves) c.args.shelves.now.items) c.args.shelves.now.len
    (omega (arith, ap (λ (shelves : List Shelved). length shelves) is, length-map c.args.shelves.now.items restarted, c.args.shelves.now.ok.0)) ∙ is
