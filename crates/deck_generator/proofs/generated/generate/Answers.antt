use Rattle.std.proofs.Common.{◌≡◌, ◌∙◌, ap, [], arith}
use Rattle.input_file.specs.Blocks.{Blocks}
use Rattle.deck_generator.specs.declared.form.Form.{Form}
use Rattle.deck_generator.specs.Generated.{generated_of}
use Rattle.deck_generator.specs.Settings.{with_boxes, with_mesh, with_field, with_rules}
use Rattle.deck_generator.proofs.Built.{built}
use Rattle.deck_generator.proofs.generated.generate.Goals as goal

pub returns : goal.returns
returns c =
    let f = c.form_of-form.result in
    let seed = c.args.seed in
    c.in_ok-add_rules.ensures
    ∙ ap with_rules c.in_ok-add_boxes.ensures
    ∙ ap (λ (d : Blocks). with_rules (with_boxes f seed d f.fields)) (c.in_ok-add_pool.ensures ∙ ap (with_field f seed) (c.in_ok-add_mesh.ensures ∙ ap (with_mesh f) c.new-deck.ensures))
    ∙ built f seed (omega (arith, c.form_of-form.ensures.fields))
    ∙ ap (λ (g : Form). generated_of g seed) c.form_of-form.ensures.value
