use Rattle.std.proofs.Common.{◌≡◌, ap, sym, subst, refl, Err, Result}
use Rattle.mesh_words.specs.declared.arguments.Source.{Source as words_source}
use Rattle.mesh_words.specs.Seen.{HasSeed, seen_arguments, seen_source}
use Rattle.mesh_input.specs.declared.input.Input.{Input}
use Rattle.mesh_input.specs.declared.fault.InputFault.{InputFault}
use Rattle.mesh_input.specs.declared.fault.InputFault.TheVariants.{ReadFault}
use Rattle.mesh_cli.specs.Steps.{AfterTaking}
use Rattle.mesh_cli.proofs.StepLemmas.{file_answers, seed_answers, seed_reads_nothing}
use Rattle.mesh_cli.proofs.steps.accept_source.Goals as goal

pub accept_seed-requires : goal.accept_seed-requires
accept_seed-requires g c = subst HasSeed c.in-Seed.is c.requires

pub returns-in-File-clause-answer : goal.returns-in-File-clause-answer
returns-in-File-clause-answer g c =
    file_answers (g.D.Depot.seen c.args.depot.now).inputs (seen_arguments c.args.arguments.now) c.in-File.name.now c.accept_file.result (ap seen_source c.in-File.is) (rw c.as_slice-overrides.ensures.value at c.accept_file.ensures.answer)

pub returns-in-File-clause-after : goal.returns-in-File-clause-after
returns-in-File-clause-after g c =
    let old = g.D.Depot.seen c.args.depot.now in
    let new = g.D.Depot.seen c.accept_file.new.depot in
    subst (λ (s : words_source). AfterTaking (seen_source s) (◌≡◌ {A = Result Input InputFault} c.accept_file.result (Err ReadFault)) old new) (sym c.in-File.is) c.accept_file.ensures.after

pub returns-in-Seed-clause-answer : goal.returns-in-Seed-clause-answer
returns-in-Seed-clause-answer g c =
    seed_answers (g.D.Depot.seen c.args.depot.now).inputs (seen_arguments c.args.arguments.now) c.in-Seed.seed c.in-Seed.large c.accept_seed.result (ap seen_source c.in-Seed.is) (rw c.as_slice-overrides.ensures.value at c.accept_seed.ensures)

pub returns-in-Seed-clause-after : goal.returns-in-Seed-clause-after
returns-in-Seed-clause-after g c =
    let old = g.D.Depot.seen c.args.depot.now in
    subst (λ (s : words_source). AfterTaking (seen_source s) (◌≡◌ {A = Result Input InputFault} c.accept_seed.result (Err ReadFault)) old old) (sym c.in-Seed.is) (refl, seed_reads_nothing c.accept_seed.result _ c.accept_seed.ensures)
