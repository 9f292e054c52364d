use Rattle.std.proofs.Common.{[], ◌∙◌, ap}
use Rattle.std.specs.Prelude.{unwrap_or, map, codes}
use Rattle.std.specs.Borrow.{Bor}
use Rattle.clap.specs.Words.{Text, found_of}
use Rattle.mesh_words.proofs.RowLemmas.{all_of-rows}
use Rattle.mesh_words.proofs.arguments.overrides_of.Goals as goal

pub returns-in_ok-from_slice-in-Some-clause-ok : goal.returns-in_ok-from_slice-in-Some-clause-ok
returns-in_ok-from_slice-in-Some-clause-ok c =
    ap (map (λ (t : Bor Text). t.now)) c.in_ok-from_slice-in-Some.ensures.items
    ∙ ap (λ (o : _). unwrap_or o []) (c.in-Some.ensures ∙ all_of-rows (codes "overrides") (found_of c.args.matches.now))

pub returns-in-None-clause-ok : goal.returns-in-None-clause-ok
returns-in-None-clause-ok c =
    ap (map (λ (t : Bor Text). t.now)) c.new.ensures.items
    ∙ ap (λ (o : _). unwrap_or o []) (c.in-None.ensures ∙ all_of-rows (codes "overrides") (found_of c.args.matches.now))
