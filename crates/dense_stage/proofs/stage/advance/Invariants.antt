use Rattle.dense_stage.specs.Blocks.{field_on}
use Rattle.dense_stage.proofs.stage.advance.Given as goal

abbrev pub ghost-advance_leaves : goal.ghost-advance_leaves
ghost-advance_leaves a = field_on a.problem.now a.lists.now a.field
