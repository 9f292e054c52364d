use Rattle.std.proofs.Common.{◌≡◌, sym, subst, ◌∙◌}
use Rattle.block_tree.specs.Blocks.{TreeOfBlocks}
use Rattle.problem_set.specs.SettingsOf.{settings_of}
use Rattle.remesh.specs.Carries.{AreAllOnLeaves}
use Rattle.remesh.proofs.Finished.{can_carry_all, fresh, remap_stands}
use Rattle.remesh.proofs.InLists.{Remap}
use Rattle.remesh.proofs.Opened.{IsOpened, opened}
use Rattle.remesh.proofs.parallel.filled.Goals as goal

pub store_leaves-requires-clause-mesh : goal.store_leaves-requires-clause-mesh
store_leaves-requires-clause-mesh c =
    let p = settings_of c.args.problem.now in
    let l = c.args.layout.now in
    let old = c.args.old.now in
    let next = c.args.tree in
    let r : Remap p old next l = record { can = c.requires.remap; kept = c.tree.ensures.kept; next_kept = c.requires.tree; layout_is = record { dims = c.requires.layout.dims ∙ sym c.requires.remap.stored.dims; cells = c.requires.layout.cells ∙ sym c.requires.remap.stored.cells } } in
    can_carry_all p old next l c.args.origins.now c.in_ok-mesh.mesh r c.requires.origins (opened p l next c.in_ok-mesh.mesh (c.in_ok-mesh.ensures l c.requires.layout))

pub store_leaves-requires-clause-bufs : goal.store_leaves-requires-clause-bufs
store_leaves-requires-clause-bufs c =
    let p = settings_of c.args.problem.now in
    let l = c.args.layout.now in
    let first : IsOpened p l c.args.tree c.in_ok-mesh.mesh = opened p l c.args.tree c.in_ok-mesh.mesh (c.in_ok-mesh.ensures l c.requires.layout) in
    subst (λ (t : TreeOfBlocks). AreAllOnLeaves l c.args.old.now t c.args.origins.now c.args.all.items) (sym first.tree) c.requires.bufs

pub returns-clause-state : goal.returns-clause-state
returns-clause-state c =
    let p = settings_of c.args.problem.now in
    let l = c.args.layout.now in
    let old = c.args.old.now in
    let next = c.args.tree in
    let r : Remap p old next l = record { can = c.requires.remap; kept = c.tree.ensures.kept; next_kept = c.requires.tree; layout_is = record { dims = c.requires.layout.dims ∙ sym c.requires.remap.stored.dims; cells = c.requires.layout.cells ∙ sym c.requires.remap.stored.cells } } in
    remap_stands p old next l c.args.origins.now c.in_ok-mesh.mesh c.store_leaves.new.mesh c.restart_epochs.new.self r c.requires.origins (opened p l next c.in_ok-mesh.mesh (c.in_ok-mesh.ensures l c.requires.layout))
    c.in_ok-store_leaves.ensures c.tree-2.ensures.kept c.restart_epochs.ensures

pub returns-clause-fresh : goal.returns-clause-fresh
returns-clause-fresh c =
    let p = settings_of c.args.problem.now in
    let l = c.args.layout.now in
    let old = c.args.old.now in
    let next = c.args.tree in
    let r : Remap p old next l = record { can = c.requires.remap; kept = c.tree.ensures.kept; next_kept = c.requires.tree; layout_is = record { dims = c.requires.layout.dims ∙ sym c.requires.remap.stored.dims; cells = c.requires.layout.cells ∙ sym c.requires.remap.stored.cells } } in
    fresh p old next l c.args.origins.now c.in_ok-mesh.mesh c.store_leaves.new.mesh c.restart_epochs.new.self r c.requires.origins (opened p l next c.in_ok-mesh.mesh (c.in_ok-mesh.ensures l c.requires.layout))
    c.in_ok-store_leaves.ensures c.tree-2.ensures.kept c.restart_epochs.ensures
