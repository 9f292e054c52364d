use Rattle.std.proofs.Common.{List, ap, length, ◌++◌, ◌∙◌, ℕ}
use Rattle.problem_set.specs.SettingsOf.{settings_of}
use Rattle.dump_writer.specs.declared.history.HistRow.{HistRow}
use Rattle.dump_writer.proofs.history.push_rows_of.Goals as goal

pub rows_after-requires-clause-totals : goal.rows_after-requires-clause-totals
rows_after-requires-clause-totals c = ap (λ (v : List ℕ). length v) c.as_slice.ensures ∙ c.in_ok-totals.ensures.count

pub returns-clause-added : goal.returns-clause-added
returns-clause-added c s stands =
    c.in_ok-append.ensures.ok
    ∙ ap (λ (v : List HistRow). c.args.rows.now ++ v) (c.in_ok-more.ensures (settings_of c.args.problem.now) s stands (c.as_slice.ensures ∙ c.in_ok-totals.ensures.totals s stands))
