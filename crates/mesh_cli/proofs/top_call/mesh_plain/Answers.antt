use Rattle.std.specs.Prelude.{map, string_bytes}
use Rattle.mesh_words.specs.Arguments.{arguments_of}
use Rattle.mesh_cli.specs.TopCall.{Outside, outside}
use Rattle.mesh_cli.proofs.TopCallLemmas.{causes, completes, counts, inputs_stay}
use Rattle.mesh_cli.proofs.top_call.mesh_plain.Goals as goal

pub returns : goal.returns
returns g c =
    let before : Outside = outside (g.D.Depot.seen c.args.depot.now) (g.K.Sink.seen c.args.out.now) in
    let after : Outside = outside (g.D.Depot.seen c.outcome_of-outcome.new.depot) (g.K.Sink.seen c.report.new.out) in
    let o = c.outcome_of-outcome.result in
    let ended = c.outcome_of-outcome.ensures.ends in
    let call = c.outcome_of-outcome.ensures.after in
    let told = c.report.ensures.told in
    let report = c.report.ensures.after in
    let words = arguments_of (map string_bytes c.args.words.now) in
    record {
      outcome = o;
      ended = ended;
      told = told;
      causes = causes words o c.report.result before after ended call told report;
      counts = counts words o c.report.result before after call report;
      completes = completes words o c.report.result before after ended call told report;
      inputs = inputs_stay words o before.depot after.depot call;
    }
