use Rattle.std.proofs.Common.{◌∙◌}
use Rattle.problem_set.specs.SettingsOf.{settings_of}
use Rattle.mesh_rules.specs.Fields.{field_count}
use Rattle.dense_mesh.specs.Meshes.{mesh_of}
use Rattle.dense_reaction.proofs.LeafSteps.{made_is, used_is}
use Rattle.dense_reaction.proofs.mesh.react.Goals as goal

pub returns-clause-made : goal.returns-clause-made
returns-clause-made g c =
    let react = g.C.CellKernel.reacts (g.C.CellKernel.code c.args.kernel.now) in
    let p = settings_of c.args.problem.now in
    let m = mesh_of c.args.tree.now p.cells c.args.lists.now in
    c.in_ok-made.ensures ∙ made_is react (field_count p) m c.react_leaves.new.flows c.in_ok-lists.ensures.flows

pub returns-clause-used : goal.returns-clause-used
returns-clause-used g c =
    let react = g.C.CellKernel.reacts (g.C.CellKernel.code c.args.kernel.now) in
    let p = settings_of c.args.problem.now in
    let m = mesh_of c.args.tree.now p.cells c.args.lists.now in
    c.in_ok-used.ensures ∙ used_is react (field_count p) m c.react_leaves.new.flows c.in_ok-lists.ensures.flows
