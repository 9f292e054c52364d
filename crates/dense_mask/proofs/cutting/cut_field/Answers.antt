use Rattle.std.proofs.Common.{length, sym, ◌∙◌}
use Rattle.problem_set.specs.SettingsOf.{settings_of}
use Rattle.dense_mask.proofs.Cuts.{nothing_dropped}
use Rattle.dense_mask.proofs.cutting.cut_field.Goals as goal

pub returns-then-not-is_sparse-clause-dropped : goal.returns-then-not-is_sparse-clause-dropped
returns-then-not-is_sparse-clause-dropped c =
    nothing_dropped (settings_of c.args.problem.now) c.args.field c.args.slots.now c.args.list.now (length c.args.list.now) (sym c.is_sparse.ensures ∙ c.if-not-is_sparse.true)
