use Rattle.std.proofs.Common.{◌≡◌, ℕ, Bool, ◌++◌, cond, codes, sym, ap, ◌∙◌}
use Rattle.std.proofs.lemmas.Result.{on_ok_weaker}
use Rattle.problem_set.specs.SettingsOf.{settings_of}
use Rattle.mesh_rules.specs.Texts.{line, named, shows_drops}
use Rattle.mesh_texts.proofs.history.push_history_heading.Goals as goal
use Rattle.mesh_texts.proofs.history.push_history_heading.Goals.{then-shows_drops, else-shows_drops}

pub returns : goal.returns
returns c =
    let form : Bool → ℕ = λ b. cond b 2 1 in
    let form_is : c.if-shows_drops.form ≡ form (shows_drops (settings_of c.args.problem.now)) =
    elim c.if-shows_drops.branch [
      | then-shows_drops w ↦ w.form-is ∙ ap form (sym w.if-shows_drops.true ∙ c.shows_drops.ensures)
      | else-shows_drops w ↦ w.form-is ∙ ap form (sym w.if-shows_drops.false ∙ c.shows_drops.ensures)
    ] in
    on_ok_weaker c.push_named_line.result
    (λ last. last ∙ ap (λ (n : ℕ). c.args.into.now.items ++ line (named (codes "parthenon-whole history ") n)) form_is)
    c.push_named_line.ensures
