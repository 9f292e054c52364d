use Rattle.std.proofs.Common.{◌≡◌, length, arith}
use Rattle.std.proofs.lemmas.Result.{err_from_is_err_and}
use Rattle.problem_set.proofs.PackageLemmas.{first_block, register_step_at, register_stop_at, register_all}
use Rattle.problem_set.proofs.packages.register_chained.Goals as goal

pub register_once-requires-clause-first : goal.register_once-requires-clause-first
register_once-requires-clause-first c =
    first_block c.args.blocks.now c.loop-i.i c.block_at.result.now c.loop-i.fields c.loop-i.moves c.loop-i.invariant c.block_at.ensures

pub returns-in_err-register_once-clause-value : goal.returns-in_err-register_once-clause-value
returns-in_err-register_once-clause-value c =
    let p = err_from_is_err_and c.from_residual.result c.from_residual.ensures.1 in
    rw (p.1, p.2) (register_stop_at c.args.blocks.now c.loop-i.i c.block_at.result.now c.loop-i.fields c.loop-i.moves c.in_err-register_once.field-0.0 c.loop-i.invariant c.block_at.ensures c.in_err-register_once.ensures.registry)

pub loop-i-preserved : goal.loop-i-preserved
loop-i-preserved c =
    register_step_at c.args.blocks.now c.loop-i.i c.block_at.result.now c.loop-i.fields c.loop-i.moves _ _ c.requires.moves c.loop-i.invariant c.block_at.ensures c.in_ok-register_once.ensures.registry c.in_ok-register_once.ensures.moves

pub returns-clause-value : goal.returns-clause-value
returns-clause-value c =
    let whole : c.loop-i.i ≡ length c.args.blocks.now = omega arith in
    register_all c.args.blocks.now c.loop-i.fields c.loop-i.moves (rw whole at c.loop-i.invariant)

pub returns-clause-as_many : goal.returns-clause-as_many
returns-clause-as_many c = c.loop-i.invariant.as_many

pub returns-clause-sound : goal.returns-clause-sound
returns-clause-sound c = c.loop-i.invariant.sound
