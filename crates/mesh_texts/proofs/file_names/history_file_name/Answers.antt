use Rattle.std.proofs.Common.{sym, ◌∙◌}
use Rattle.mesh_texts.proofs.FileNames.{history_file_name_is}
use Rattle.mesh_texts.proofs.file_names.history_file_name.Goals as goal

pub returns : goal.returns
returns c = c.in_ok-name.ensures.ok ∙ sym (history_file_name_is c.args.prefix.now)
