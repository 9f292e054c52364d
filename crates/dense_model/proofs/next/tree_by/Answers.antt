use Rattle.std.proofs.Common.{◌∙◌, Bool, List, ap, refl, subst, sym}
use Rattle.morton_order.specs.declared.space.Loc.{Loc}
use Rattle.morton_order.specs.declared.space.Shape.{Shape}
use Rattle.block_tree.specs.declared.tags.Tag.{Tag}
use Rattle.block_tree.specs.Blocks.{RefusedByCount, is_inner_of, leaves, tree_with}
use Rattle.block_tree.specs.Next.{IsNear, next_inner, tag_at}
use Rattle.problem_set.specs.SettingsOf.{settings_of}
use Rattle.mesh_rules.specs.Reaction.{kernel_of}
use Rattle.mesh_rules.specs.Remesh.{next_tree}
use Rattle.mesh_rules.specs.Cycle.{State}
use Rattle.dense_cycle.specs.Held.{state_of}
use Rattle.dense_model.proofs.Trees.{are_tags, next_same}
use Rattle.dense_model.proofs.next.tree_by.Goals as goal

pub next_tree-requires : goal.next_tree-requires
next_tree-requires c =
    let p = c.args.problem.now in
    let s : State = state_of c.args.tree.now p.cells c.args.before.now in
    are_tags p (kernel_of (settings_of p)) c.args.tree.now s c.args.tags.now c.requires.fit.mesh refl refl refl c.requires.tags

pub returns-in-Ok-clause-next : goal.returns-in-Ok-clause-next
returns-in-Ok-clause-next c =
    let p = c.args.problem.now in
    let q = settings_of p in
    let t = c.args.tree.now in
    let s : State = state_of t p.cells c.args.before.now in
    c.in-Ok.ensures.next
    ∙ ap (λ (ts : List Tag). tree_with t.shape (next_inner 9 t.shape (is_inner_of t) (tag_at (leaves t) ts))) c.requires.tags
    ∙ ap (λ (inner : Loc → Bool). tree_with t.shape inner) (next_same p (kernel_of q) s c.requires.fit.mesh)
    ∙ ap (λ (ts : List Tag). tree_with t.shape (next_tree q s.mesh ts)) (sym c.requires.tags)

pub returns-in-Ok-clause-near : goal.returns-in-Ok-clause-near
returns-in-Ok-clause-near c = subst (λ (sh : Shape). IsNear sh (is_inner_of c.args.tree.now) (is_inner_of c.in-Ok.next)) c.requires.fit.mesh.shape c.in-Ok.ensures.near

pub returns-in-Err-clause-fault : goal.returns-in-Err-clause-fault
returns-in-Err-clause-fault c =
    let p = c.args.problem.now in
    let q = settings_of p in
    let t = c.args.tree.now in
    let s : State = state_of t p.cells c.args.before.now in
    c.stops_at.ensures q s c.requires.due
    (subst (λ (inner : Loc → Bool). RefusedByCount t.shape inner c.in-Err.fault)
    (ap (λ (ts : List Tag). next_inner 9 t.shape (is_inner_of t) (tag_at (leaves t) ts)) c.requires.tags ∙ next_same p (kernel_of q) s c.requires.fit.mesh) c.in-Err.ensures.fault)
