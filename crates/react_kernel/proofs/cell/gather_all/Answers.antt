use Rattle.std.proofs.Common.{◌≡◌, ◌∙◌, ap, ℕ, ◌++◌, length, List, sum, arith}
use Rattle.react_kernel.specs.Blocks.{totals_at}
use Rattle.react_kernel.specs.BlockSteps.{gathered}
use Rattle.react_kernel.proofs.Cells.{all_gathered, apart_fresh, in_range_fresh, in_range_of}
use Rattle.react_kernel.proofs.cell.gather_all.Goals as goal

pub gather-low-requires-clause-small : goal.gather-low-requires-clause-small
gather-low-requires-clause-small c =
    let l = c.args.layout.now in
    let n = length c.args.cell.now in
    let all = all_gathered c.args.place n c.args.bufs.now c.args.made.now c.requires.bufs.rise c.requires.made.rise (apart_fresh l c.args.fresh.block c.args.fresh.stamp n c.args.bufs.now c.args.made.now c.requires.made)
    (in_range_of l c.args.fresh.block n c.args.bufs.now c.requires.bufs) (in_range_fresh l c.args.fresh.block c.args.fresh.stamp n c.args.bufs.now c.args.made.now c.requires.made) in
    omega (arith, all.total, c.requires.small)

pub gather-high-requires-clause-small : goal.gather-high-requires-clause-small
gather-high-requires-clause-small c =
    let l = c.args.layout.now in
    let n = length c.args.cell.now in
    let all = all_gathered c.args.place n c.args.bufs.now c.args.made.now c.requires.bufs.rise c.requires.made.rise (apart_fresh l c.args.fresh.block c.args.fresh.stamp n c.args.bufs.now c.args.made.now c.requires.made)
    (in_range_of l c.args.fresh.block n c.args.bufs.now c.requires.bufs) (in_range_fresh l c.args.fresh.block c.args.fresh.stamp n c.args.bufs.now c.args.made.now c.requires.made) in
    omega (arith, all.total, c.requires.small)

pub overflow_add-result : goal.overflow_add-result
overflow_add-result c =
    let l = c.args.layout.now in
    let n = length c.args.cell.now in
    let all = all_gathered c.args.place n c.args.bufs.now c.args.made.now c.requires.bufs.rise c.requires.made.rise (apart_fresh l c.args.fresh.block c.args.fresh.stamp n c.args.bufs.now c.args.made.now c.requires.made)
    (in_range_of l c.args.fresh.block n c.args.bufs.now c.requires.bufs) (in_range_fresh l c.args.fresh.block c.args.fresh.stamp n c.args.bufs.now c.args.made.now c.requires.made) in
    omega (arith, all.total, c.requires.small, c.gather-low.ensures.sum, c.gather-high.ensures.sum)

pub returns-clause-cell : goal.returns-clause-cell
returns-clause-cell c =
    let l = c.args.layout.now in
    let n = length c.args.cell.now in
    let all = all_gathered c.args.place n c.args.bufs.now c.args.made.now c.requires.bufs.rise c.requires.made.rise (apart_fresh l c.args.fresh.block c.args.fresh.stamp n c.args.bufs.now c.args.made.now c.requires.made)
    (in_range_of l c.args.fresh.block n c.args.bufs.now c.requires.bufs) (in_range_fresh l c.args.fresh.block c.args.fresh.stamp n c.args.bufs.now c.args.made.now c.requires.made) in
    c.gather-high.ensures.cell
    ∙ (ap (λ (cell : List ℕ). gathered c.args.place c.args.made.now cell) (c.gather-low.ensures.cell ∙ ap (λ (cell : List ℕ). gathered c.args.place c.args.bufs.now cell) c.requires.cell)
    ∙ all.cell)

pub returns-clause-sum : goal.returns-clause-sum
returns-clause-sum c =
    let l = c.args.layout.now in
    let n = length c.args.cell.now in
    let all = all_gathered c.args.place n c.args.bufs.now c.args.made.now c.requires.bufs.rise c.requires.made.rise (apart_fresh l c.args.fresh.block c.args.fresh.stamp n c.args.bufs.now c.args.made.now c.requires.made)
    (in_range_of l c.args.fresh.block n c.args.bufs.now c.requires.bufs) (in_range_fresh l c.args.fresh.block c.args.fresh.stamp n c.args.bufs.now c.args.made.now c.requires.made) in
    let is = c.gather-high.ensures.cell
    ∙ (ap (λ (cell : List ℕ). gathered c.args.place c.args.made.now cell) (c.gather-low.ensures.cell ∙ ap (λ (cell : List ℕ). gathered c.args.place c.args.bufs.now cell) c.requires.cell)
    ∙ all.cell) in
    let same : sum c.gather-high.new.cell ≡ sum (totals_at (c.args.bufs.now ++ c.args.made.now) n c.args.place) = ap (λ (xs : List ℕ). sum xs) is in
    omega (arith, all.total, same, c.gather-low.ensures.sum, c.gather-high.ensures.sum)
