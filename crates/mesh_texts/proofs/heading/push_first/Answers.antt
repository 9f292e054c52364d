use Rattle.std.proofs.Common.{ℕ, ◌++◌, ap, ◌∙◌, codes}
use Rattle.std.proofs.lemmas.Result.{on_ok_weaker}
use Rattle.mesh_rules.specs.Texts.{line, named}
use Rattle.mesh_texts.proofs.Appended.{three_more}
use Rattle.mesh_texts.proofs.heading.push_first.Goals as goal

pub returns : goal.returns
returns c =
    let second = c.in_ok-push_named_line.ensures ∙ ap (λ (n : ℕ). c.push_line.new.into.items ++ line (named (codes "cycle ") n)) c.from.ensures in
    on_ok_weaker c.push_dims.result (λ last. three_more _ _ _ _ _ _ _ c.in_ok-push_line.ensures second last) c.push_dims.ensures
