use Rattle.std.proofs.Common.{arith}
use Rattle.std.proofs.lemmas.Option.{slice_get-get_or}
use Rattle.problem_set.specs.SettingsOf.{settings_of}
use Rattle.mesh_rules.specs.Fields.{field_at, moves_at}
use Rattle.leaf_stages.proofs.RateFits.{left_fits, right_fits}
use Rattle.leaf_stages.proofs.rates.axis_rates.Goals as goal

pub returns-then-axis-problem-clause-right_fits : goal.returns-then-axis-problem-clause-right_fits
returns-then-axis-problem-clause-right_fits c =
    let q = settings_of c.args.problem.now in
    let same = c.args.problem.now.fields_sound.same_length in
    right_fits c.args.problem.now c.args.field c.args.axis c.args.level c.rates.result.right c.requires.field c.if-axis-problem.true c.requires.level
    (c.rates.ensures.right (field_at q c.args.field) (moves_at q c.args.field) (slice_get-get_or c.args.problem.now.fields.fields c.args.field _ (omega (arith, same, c.requires.field))) (slice_get-get_or c.args.problem.now.moves c.args.field _ c.requires.field))

pub returns-then-axis-problem-clause-left_fits : goal.returns-then-axis-problem-clause-left_fits
returns-then-axis-problem-clause-left_fits c =
    let q = settings_of c.args.problem.now in
    let same = c.args.problem.now.fields_sound.same_length in
    left_fits c.args.problem.now c.args.field c.args.axis c.args.level c.rates.result.left c.requires.field c.if-axis-problem.true c.requires.level
    (c.rates.ensures.left (field_at q c.args.field) (moves_at q c.args.field) (slice_get-get_or c.args.problem.now.fields.fields c.args.field _ (omega (arith, same, c.requires.field))) (slice_get-get_or c.args.problem.now.moves c.args.field _ c.requires.field))
