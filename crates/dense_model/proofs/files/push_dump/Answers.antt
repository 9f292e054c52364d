use Rattle.std.proofs.Common.{List, ℕ, [], ◌∷◌, ◌++◌, ap, ◌∙◌}
use Rattle.std.proofs.lemmas.Result.{on_ok_weaker}
use Rattle.problem_set.specs.SettingsOf.{settings_of}
use Rattle.mesh_rules.specs.Files.{NamedText, dump_file_name}
use Rattle.mesh_outside.specs.declared.files.File.{File}
use Rattle.dense_model.specs.Files.{file_of}
use Rattle.dense_model.proofs.FileLists.{due_file}
use Rattle.dense_model.proofs.files.push_dump.Goals as goal

pub returns : goal.returns
returns c =
    let p = settings_of c.args.problem.now in
    let prefix = c.args.prefix.now in
    let due = due_file p prefix c.args.run.now c.cycles.result c.cycles-2.result c.is_dumped.result _ _ c.requires.same c.requires.running c.cycles.ensures.value c.cycles-2.ensures.value c.is_dumped.ensures c.if-not-is_dumped.false c.in_ok-name.ensures c.in_ok-text.ensures in
    on_ok_weaker c.push_file.result (λ pushed. pushed ∙ ap (λ (v : List File). c.args.files.now ++ v) due) c.push_file.ensures
