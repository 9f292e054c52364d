use Rattle.std.proofs.Common.{ℕ, ◌∙◌, slice_index_or, subst, refl, arith}
use Rattle.std.proofs.lemmas.List.{get_or_default}
use Rattle.kernel_bench.specs.declared.block.Block.{Block}
use Rattle.kernel_bench.specs.Small.{HasSmall}
use borrow.Author.Count.{below_more}
use Rattle.kernel_bench.proofs.rounds.have_small.Goals as goal

pub loop-block-preserved : goal.loop-block-preserved
loop-block-preserved c = λ k d inside.
    let i = c.loop-block.block-index in
    let blocks = c.args.blocks.now in
    let here = subst (λ (b : Block). HasSmall b) (c.block-item.is ∙ get_or_default blocks i c.block-item.result d c.loop-block-test.true) (c.if-not-has_small.ensures refl) in
    below_more (λ (n : ℕ). HasSmall (slice_index_or blocks n d)) i (λ n h. c.loop-block.invariant n d h) here k inside

pub returns : goal.returns
returns c = λ all k d inside. c.loop-block.invariant k d (omega (arith, inside, c.loop-block-test.false))
