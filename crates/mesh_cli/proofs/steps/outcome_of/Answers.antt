use Rattle.std.proofs.Common.{Result, sym, subst}
use Rattle.mesh_words.specs.Arguments.{Arguments}
use Rattle.mesh_words.specs.declared.fault.UsageFault.{UsageFault}
use Rattle.mesh_cli.specs.Steps.{AfterCall, EndsWith}
use Rattle.mesh_cli.proofs.StepLemmas.{usage_after, usage_ends}
use Rattle.mesh_cli.proofs.steps.outcome_of.Goals as goal

pub returns-in-Ok-clause-ends : goal.returns-in-Ok-clause-ends
returns-in-Ok-clause-ends g c =
    let P : Result Arguments UsageFault → Type 0 = λ t. EndsWith t c.outcome_of_arguments.result (g.D.Depot.seen c.args.depot.now) (g.D.Depot.seen c.outcome_of_arguments.new.depot) in
    subst P (sym c.in-Ok.ensures.answer) c.outcome_of_arguments.ensures.ends

pub returns-in-Ok-clause-after : goal.returns-in-Ok-clause-after
returns-in-Ok-clause-after g c =
    let P : Result Arguments UsageFault → Type 0 = λ t. AfterCall t c.outcome_of_arguments.result (g.D.Depot.seen c.args.depot.now) (g.D.Depot.seen c.outcome_of_arguments.new.depot) in
    subst P (sym c.in-Ok.ensures.answer) c.outcome_of_arguments.ensures.after

pub returns-in-Err-clause-ends : goal.returns-in-Err-clause-ends
returns-in-Err-clause-ends g c =
    usage_ends _ c.in-Err.fault c.outcome_of_usage.result (g.D.Depot.seen c.args.depot.now) c.outcome_of_usage.ensures c.in-Err.ensures.answer

pub returns-in-Err-clause-after : goal.returns-in-Err-clause-after
returns-in-Err-clause-after g c =
    usage_after _ c.in-Err.fault c.outcome_of_usage.result (g.D.Depot.seen c.args.depot.now) c.outcome_of_usage.ensures
