use Rattle.std.proofs.Common.{ℕ, List, ◌∷◌, ◌++◌, map, sym, ap, ◌∙◌}
use Rattle.std.specs.List.{flat_map, join_with_byte}
use Rattle.std.specs.Fmt.{decimal}
use Rattle.std.proofs.lemmas.Result.{on_ok_weaker}
use Rattle.mesh_texts.proofs.Appended.{two_more}
use Rattle.mesh_texts.proofs.Rows.{joined}
use Rattle.mesh_texts.proofs.block.push_totals.Goals as goal

pub returns : goal.returns
returns c =
    let first = c.in-Some.first.now in
    let rest = c.in-Some.rest.now in
    let others : List ℕ = flat_map (λ (total : ℕ). 32 ∷ decimal total) rest in
    let all = c.in-Some.ensures.cases.0 in
    on_ok_weaker c.push_others.result
    (λ last. two_more _ _ _ (decimal first) others c.in_ok-push_number.ensures last
    ∙ ap (λ (v : List ℕ). c.args.into.now.items ++ v) (sym (ap (λ (v : List ℕ). join_with_byte 32 (map decimal v)) all ∙ joined first rest)))
    c.push_others.ensures
