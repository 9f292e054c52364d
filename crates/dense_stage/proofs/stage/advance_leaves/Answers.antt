use Rattle.std.proofs.Common.{◌≡◌, ◌∙◌, ap, subst, sym}
use Rattle.dense_stage.specs.Blocks.{FieldMesh, HaveOwn, field_on}
use Rattle.dense_stage.proofs.stage.advance_leaves.Goals as goal

pub correct-requires : goal.correct-requires
correct-requires g c =
    let same : field_on c.args.problem.now g.x.lists c.args.field ≡ g.x = ap (λ (v : FieldMesh). field_on c.args.problem.now v.lists c.args.field) c.requires.0 ∙ sym c.requires.0 in
    (c.requires.1.0, (c.own_fluxes.ensures.faces, subst (λ (v : FieldMesh). HaveOwn c.args.tree.now c.args.layout.now v c.own_fluxes.new.faces) same c.own_fluxes.ensures.own))
