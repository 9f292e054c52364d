use Rattle.std.proofs.Common.{◌≡◌, sym, subst}
use Rattle.std.specs.Prelude.{Result, map}
use Rattle.std.specs.String.{string_bytes}
use Rattle.clap.specs.Words.{app_of, rows_of, found_of, subcommand_rows_of, subcommand_of}
use Rattle.mesh_words.specs.Arguments.{Arguments}
use Rattle.mesh_words.specs.Seen.{Answers, seen_arguments}
use Rattle.mesh_words.specs.declared.fault.UsageFault.{UsageFault}
use Rattle.mesh_words.specs.declared.fault.UsageFault.TheVariants.{NotTheCommand}
use Rattle.mesh_words.proofs.ReadLemmas.{words-taken, words-refused, taken-refused}
use Rattle.mesh_words.proofs.arguments.read_arguments.Goals as goal

pub returns-in-Ok-clause-answer : goal.returns-in-Ok-clause-answer
returns-in-Ok-clause-answer c =
    subst (λ (r : Result Arguments UsageFault). Answers seen_arguments c.accept.result r)
    (sym (words-taken (app_of c.in_ok-command.command) (map string_bytes c.args.words.now) (rows_of (found_of c.in-Ok.matches))
    (λ a. subcommand_rows_of c.in-Ok.matches ≡ subcommand_of a (map string_bytes c.args.words.now))
    c.in_ok-command.ensures c.in-Ok.ensures.kinds c.in-Ok.ensures.matches))
    c.accept.ensures.answer

pub returns-in-Err-clause-answer : goal.returns-in-Err-clause-answer
returns-in-Err-clause-answer c =
    words-refused (app_of c.in_ok-command.command) (map string_bytes c.args.words.now) c.in-Err.error c.refusal.result c.in_ok-command.ensures c.in-Err.ensures.kinds c.refusal.ensures

pub returns-in-Err-clause-taken : goal.returns-in-Err-clause-taken
returns-in-Err-clause-taken c = λ taken is.
    let fault : c.refusal.result ≡ NotTheCommand = cc in
    taken-refused (app_of c.in_ok-command.command) (map string_bytes c.args.words.now) c.in-Err.error c.refusal.result c.in_ok-command.ensures c.in-Err.ensures.passes c.refusal.ensures taken fault
