use Rattle.std.proofs.Common.{subst, sym, arith}
use Rattle.std.proofs.lemmas.List.{get_or-set_other, length-set}
use Rattle.kernel_bench.specs.declared.block.Block.{Block}
use Rattle.kernel_bench.specs.Small.{HasSmall}
use Rattle.kernel_bench.proofs.rounds.make_stages.Goals as goal

pub loop-block-init : goal.loop-block-init
loop-block-init c = λ k d from inside. c.requires.small k d inside

pub make_stage-requires-clause-small : goal.make_stage-requires-clause-small
make_stage-requires-clause-small c = c.loop-block.invariant c.loop-block.block-index c.block-item.result (omega arith) (omega (arith, c.loop-block-test.true))

pub loop-block-preserved : goal.loop-block-preserved
loop-block-preserved c = λ k d from inside.
    let i = c.loop-block.block-index in
    let blocks = c.loop-block.blocks in
    let new = c.make_stage.new.block in
    subst (λ (b : Block). HasSmall b) (sym (get_or-set_other blocks i k new d (λ e. absurd (omega (arith, from, e)))))
    (c.loop-block.invariant k d (omega (arith, from)) (omega (arith, inside, length-set blocks i new)))
