use Rattle.std.proofs.lemmas.Result.{on_ok_weaker}
use Rattle.mesh_texts.proofs.Appended.{two_more}
use Rattle.journal_texts.proofs.heading.push_events_heading.Goals as goal

pub returns : goal.returns
returns c = on_ok_weaker c.push_counts.result (λ last. two_more _ _ _ _ _ c.in_ok-push_line.ensures last) c.push_counts.ensures
