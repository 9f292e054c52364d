use Rattle.std.proofs.Common.{◌≡◌, ℕ, List, subst}
use Rattle.std.specs.Prelude.{IfOk, slice_index}
use Rattle.problem_set.specs.SettingsOf.{settings_of}
use Rattle.mesh_rules.specs.Sums.{table}
use Rattle.mesh_rules.specs.Fields.{field_count}
use Rattle.mesh_rules.specs.Reaction.{made_of, reacted_cell, used_of}
use Rattle.dense_mesh.specs.Meshes.{field_lists, mesh_of}
use Rattle.dense_reaction.proofs.mesh_reaction.InCellsMeshReaction.react_on.Goals as goal

pub returns-clause-lists : goal.returns-clause-lists
returns-clause-lists g c =
    let p = settings_of c.args.problem.now in
    let n = field_count p in
    let react = g.C.CellKernel.reacts (g.C.CellKernel.code c.args.self.now.kernel) in
    subst (λ (v : List (List (List ℕ))). let m = mesh_of c.args.tree.now p.cells v in IfOk c.react.result (λ r. r.lists.items ≡ field_lists m n (λ f at. slice_index (reacted_cell react n m at).totals f))) c.as_slice.ensures.value c.react.ensures.lists

pub returns-clause-made : goal.returns-clause-made
returns-clause-made g c =
    let p = settings_of c.args.problem.now in
    let n = field_count p in
    let react = g.C.CellKernel.reacts (g.C.CellKernel.code c.args.self.now.kernel) in
    subst (λ (v : List (List (List ℕ))). IfOk c.react.result (λ r. r.made.items ≡ table n (made_of react n (mesh_of c.args.tree.now p.cells v)))) c.as_slice.ensures.value c.react.ensures.made

pub returns-clause-used : goal.returns-clause-used
returns-clause-used g c =
    let p = settings_of c.args.problem.now in
    let n = field_count p in
    let react = g.C.CellKernel.reacts (g.C.CellKernel.code c.args.self.now.kernel) in
    subst (λ (v : List (List (List ℕ))). IfOk c.react.result (λ r. r.used.items ≡ table n (used_of react n (mesh_of c.args.tree.now p.cells v)))) c.as_slice.ensures.value c.react.ensures.used
