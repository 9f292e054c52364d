use Rattle.std.proofs.Common.{◌≡◌, ◌∙◌, arith}
use Rattle.std.proofs.lemmas.List.FromFn.{fill_by_all}
use Rattle.block_layout.specs.Layouts.{interior_len}
use Rattle.dense_remesh.specs.StartBoxes.{cell_of, cell_of_block, root_total, spread_over}
use Rattle.dense_remesh.proofs.opening.shares.Goals as goal

pub returns : goal.returns
returns c =
    let l = c.args.layout.now in
    let b = c.args.block.now in
    let all : c.loop-place.place ≡ interior_len l = omega (arith, c.interior_len-place-end.ensures.value) in
    c.of.ensures ∙ fill_by_all (λ place. spread_over b.level l.dims (root_total c.args.boxes.now) (cell_of b.level (cell_of_block l.cells b place))) c.loop-place.totals.items (interior_len l) 0 (c.loop-place.invariant.count ∙ all) (λ k small. c.loop-place.invariant.each k 0 (omega arith))
