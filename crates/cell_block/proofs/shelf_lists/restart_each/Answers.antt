use Rattle.std.proofs.Common.{◌∙◌, sym, arith}
use Rattle.std.proofs.lemmas.List.{ext_get_or, get_or-map, length-map}
use Rattle.cell_block.specs.Partitions.{no_shelf, restarted}
use Rattle.cell_block.proofs.shelf_lists.restart_each.Goals as goal

pub returns : goal.returns
returns c =
    let l = c.loop-shelf in
    let old = c.args.shelves.now in
    ext_get_or no_shelf l.shelves _ (l.invariant.count ∙ sym (length-map old restarted))
    (λ k lt. l.invariant.done k (omega (arith, lt, l.invariant.count, c.loop-shelf-test.false)) ∙ sym (get_or-map restarted old k no_shelf no_shelf (omega (arith, lt, l.invariant.count))))
