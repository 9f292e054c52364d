use Rattle.std.proofs.Common.{arith}
use Rattle.cycle_stores.proofs.OpenedPlaces.{kept_all}
use Rattle.cycle_stores.proofs.opening.keep_block.Goals as goal

pub overflow_add-from : goal.overflow_add-from
overflow_add-from c = omega (arith, c.in-Some.ensures.found.within, c.tree.ensures.kept.few_fields)

pub returns-clause-kept : goal.returns-clause-kept
returns-clause-kept c = kept_all c.args.state.now c.args.kept.now c.loop-field.kept c.args.block c.loop-field.from c.tree.ensures.kept c.requires.block c.in_default.ensures.none c.loop-field.invariant.kept
