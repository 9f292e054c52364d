use Rattle.problem_set.specs.SettingsOf.{settings_of}
use Rattle.mesh_rules.specs.Fields.{field_count}
use Rattle.mesh_rules.specs.Reaction.{before_reactions, made_of, used_of}
use Rattle.dense_mesh.specs.Meshes.{mesh_of}
use Rattle.dense_reaction.proofs.Unreacted.{lists_stay, none_made, none_used, zeros_are}
use Rattle.dense_reaction.proofs.mesh_reaction.NoReactionMeshReaction.react_on.Goals as goal

pub returns-clause-lists : goal.returns-clause-lists
returns-clause-lists c = lists_stay (settings_of c.args.problem.now) c.args.tree.now c.args.layout.now c.args.lists.items c.requires.mesh

pub returns-clause-made : goal.returns-clause-made
returns-clause-made c =
    let p = settings_of c.args.problem.now in
    let n = field_count p in
    let m = mesh_of c.args.tree.now p.cells c.args.lists.items in
    zeros_are c.args.self.now.fields n c.in_ok-made.made.items (made_of before_reactions n m) c.requires.fields c.in_ok-made.ensures (none_made n m)

pub returns-clause-used : goal.returns-clause-used
returns-clause-used c =
    let p = settings_of c.args.problem.now in
    let n = field_count p in
    let m = mesh_of c.args.tree.now p.cells c.args.lists.items in
    zeros_are c.args.self.now.fields n c.in_ok-used.used.items (used_of before_reactions n m) c.requires.fields c.in_ok-used.ensures (none_used n m)
