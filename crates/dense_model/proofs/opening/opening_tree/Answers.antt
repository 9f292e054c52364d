use Rattle.std.proofs.Common.{◌∙◌, ◌≤◌, Bool, List, All, ap, subst, sym}
use Rattle.morton_order.specs.declared.space.Loc.{Loc}
use Rattle.block_tree.specs.declared.boxes.StaticBox.{StaticBox}
use Rattle.block_tree.specs.Blocks.{RefusedAtStart, tree_with}
use Rattle.block_tree.specs.Least.{opening}
use Rattle.problem_set.specs.SettingsOf.{settings_of}
use Rattle.dense_model.proofs.Trees.{opening_same, statics_coarse}
use Rattle.dense_model.proofs.opening.opening_tree.Goals as goal

pub from_static-requires-clause-levels : goal.from_static-requires-clause-levels
from_static-requires-clause-levels c = subst (All (λ (b : StaticBox). b.level ≤ 10)) (sym (c.as_slice.ensures.value ∙ c.in_ok-boxes.ensures)) (statics_coarse c.args.problem.now)

pub returns-in-Ok-clause-tree : goal.returns-in-Ok-clause-tree
returns-in-Ok-clause-tree c =
    let p = c.args.problem.now in
    c.in-Ok.ensures.opening
    ∙ ap (λ (v : List StaticBox). tree_with p.shape (opening 9 p.shape p.cells v)) (c.as_slice.ensures.value ∙ c.in_ok-boxes.ensures)
    ∙ ap (λ (inner : Loc → Bool). tree_with p.shape inner) (opening_same p)

pub returns-clause-fault : goal.returns-clause-fault
returns-clause-fault c =
    let p = c.args.problem.now in
    c.stops_at_start.ensures (settings_of p)
    (subst (λ (inner : Loc → Bool). RefusedAtStart p.shape inner c.in-Err.fault)
    (ap (λ (v : List StaticBox). opening 9 p.shape p.cells v) (c.as_slice.ensures.value ∙ c.in_ok-boxes.ensures) ∙ opening_same p) c.in-Err.ensures.fault)
