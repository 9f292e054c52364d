use Rattle.std.proofs.Common.{◌++◌, List, ℕ, codes, sym, ap, ◌∙◌}
use Rattle.std.specs.Fmt.{styled_decimal}
use Rattle.mesh_texts.proofs.FileNames.{in_six_digits_is, dump_file_name_is}
use Rattle.mesh_texts.proofs.file_names.dump_file_name.Goals as goal

pub returns : goal.returns
returns c =
    c.in_ok-name.ensures.ok
    ∙ ap (λ (digits : List ℕ). c.args.prefix.now ++ (codes "." ++ (digits ++ codes ".dump"))) (ap (λ spec. styled_decimal spec c.args.cycle) c.laid_out.ensures ∙ in_six_digits_is c.args.cycle)
    ∙ sym (dump_file_name_is c.args.prefix.now c.args.cycle)
