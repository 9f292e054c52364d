use Rattle.std.proofs.Common.{List, Option, sym, subst}
use Rattle.std.specs.Option.{ForSome}
use Rattle.mesh_outside.specs.declared.files.Gained.{Gained}
use Rattle.mesh_outside.specs.Gained.{IsClosed}
use Rattle.mesh_words.specs.Seen.{seen_arguments, seen_source}
use Rattle.mesh_input.specs.Input.{seen_input}
use Rattle.mesh_cli.proofs.StepLemmas.{fault_ends, input_ends, source_after, source_fault_after, taken_written}
use Rattle.mesh_cli.proofs.steps.outcome_of_arguments.Goals as goal

pub outcome_of_input-requires : goal.outcome_of_input-requires
outcome_of_input-requires g c =
    subst (λ (w : Option (List Gained)). ForSome w IsClosed)
    (sym (taken_written (seen_source c.args.arguments.now.source) _ _ _ c.in-Ok.ensures.after)) c.requires.closed

pub returns-in-Ok-clause-ends : goal.returns-in-Ok-clause-ends
returns-in-Ok-clause-ends g c =
    input_ends (seen_arguments c.args.arguments.now) (seen_input c.in-Ok.input) c.outcome_of_input.result
    (g.D.Depot.seen c.args.depot.now) (g.D.Depot.seen c.accept_source.new.depot) (g.D.Depot.seen c.outcome_of_input.new.depot)
    c.in-Ok.ensures.answer (taken_written (seen_source c.args.arguments.now.source) _ _ _ c.in-Ok.ensures.after) c.outcome_of_input.ensures.ends

pub returns-in-Ok-clause-after : goal.returns-in-Ok-clause-after
returns-in-Ok-clause-after g c =
    source_after (seen_source c.args.arguments.now.source) c.outcome_of_input.result _ _ _ _ c.in-Ok.ensures.after (λ is. cc) c.outcome_of_input.ensures.after c.outcome_of_input.ensures.read

pub returns-in-Err-clause-ends : goal.returns-in-Err-clause-ends
returns-in-Err-clause-ends g c =
    fault_ends (seen_arguments c.args.arguments.now) c.in-Err.fault c.outcome_of_fault.result (g.D.Depot.seen c.args.depot.now) (g.D.Depot.seen c.accept_source.new.depot) c.outcome_of_fault.ensures
    c.in-Err.ensures.answer (taken_written (seen_source c.args.arguments.now.source) _ _ _ c.in-Err.ensures.after)

pub returns-in-Err-clause-after : goal.returns-in-Err-clause-after
returns-in-Err-clause-after g c =
    source_fault_after (seen_source c.args.arguments.now.source) c.in-Err.fault c.outcome_of_fault.result _ _ c.outcome_of_fault.ensures c.in-Err.ensures.after
