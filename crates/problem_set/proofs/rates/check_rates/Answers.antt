use Rattle.std.proofs.Common.{arith}
use Rattle.std.proofs.lemmas.Result.{err_from_is_err_and}
use Rattle.problem_set.proofs.RateLemmas.{fit_more, fit_answer, fit_all}
use Rattle.problem_set.proofs.rates.check_rates.Goals as goal

pub returns-in_err-check_field : goal.returns-in_err-check_field
returns-in_err-check_field c =
    let p = err_from_is_err_and c.from_residual.result c.from_residual.ensures.1 in
    rw (p.1, p.2) (fit_answer c.args.dims c.args.level c.args.denominator c.args.fields.now c.args.moves.now c.loop-i.i c.field_at.result.now c.moves_at.result c.in_err-check_field.field-0.0 c.loop-i.invariant c.field_at.ensures c.moves_at.ensures c.in_err-check_field.ensures.fault)

pub loop-i-preserved : goal.loop-i-preserved
loop-i-preserved c =
    fit_more c.args.dims c.args.level c.args.denominator c.args.fields.now c.args.moves.now c.loop-i.i c.field_at.result.now c.moves_at.result c.loop-i.invariant c.field_at.ensures c.moves_at.ensures c.in_ok-check_field.ensures.ok

pub returns : goal.returns
returns c =
    fit_all c.args.dims c.args.level c.args.denominator c.args.fields.now c.args.moves.now c.loop-i.i c.loop-i.invariant c.requires.as_many (omega arith)
