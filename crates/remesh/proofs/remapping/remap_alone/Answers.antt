use Rattle.std.proofs.Common.{sym, subst, ◌∙◌}
use Rattle.block_tree.specs.Blocks.{TreeOfBlocks, leaves}
use Rattle.problem_set.specs.SettingsOf.{settings_of}
use Rattle.cell_block.specs.Rules.{IsLayoutFor}
use Rattle.dense_remesh.specs.Origins.{AreOrigins}
use Rattle.remesh.proofs.Finished.{can_carry_all, fresh, remap_stands}
use Rattle.remesh.proofs.InLists.{Remap}
use Rattle.remesh.proofs.Opened.{IsOpened, opened}
use Rattle.remesh.proofs.remapping.remap_alone.Goals as goal

pub carry_leaves-requires : goal.carry_leaves-requires
carry_leaves-requires c =
    let p = settings_of c.args.problem.now in
    let l = c.of-layout.result in
    let old = c.args.old.now in
    let next = c.args.tree in
    let layout : IsLayoutFor p l = record { dims = c.of-layout.ensures.dims; cells = c.of-layout.ensures.cells } in
    let r : Remap p old next l = record { can = c.requires; kept = c.tree.ensures.kept; next_kept = c.leaf_origins.ensures.next; layout_is = record { dims = c.of-layout.ensures.dims ∙ sym c.requires.stored.dims; cells = c.of-layout.ensures.cells ∙ sym c.requires.stored.cells } } in
    let are : AreOrigins old.tree (leaves next) c.in_ok-origins.origins.items = subst (λ (t : TreeOfBlocks). AreOrigins t (leaves next) c.in_ok-origins.origins.items) c.tree.ensures.tree c.in_ok-origins.ensures.origins in
    let start : IsOpened p l next c.in_ok-mesh.mesh = opened p l next c.in_ok-mesh.mesh (c.in_ok-mesh.ensures l layout) in
    can_carry_all p old next l c.as_slice.result.now c.in_ok-mesh.mesh r (subst (AreOrigins old.tree (leaves next)) (sym c.as_slice.ensures.value) are) start

pub returns-clause-state : goal.returns-clause-state
returns-clause-state c =
    let p = settings_of c.args.problem.now in
    let l = c.of-layout.result in
    let old = c.args.old.now in
    let next = c.args.tree in
    let layout : IsLayoutFor p l = record { dims = c.of-layout.ensures.dims; cells = c.of-layout.ensures.cells } in
    let r : Remap p old next l = record { can = c.requires; kept = c.tree.ensures.kept; next_kept = c.leaf_origins.ensures.next; layout_is = record { dims = c.of-layout.ensures.dims ∙ sym c.requires.stored.dims; cells = c.of-layout.ensures.cells ∙ sym c.requires.stored.cells } } in
    let are : AreOrigins old.tree (leaves next) c.in_ok-origins.origins.items = subst (λ (t : TreeOfBlocks). AreOrigins t (leaves next) c.in_ok-origins.origins.items) c.tree.ensures.tree c.in_ok-origins.ensures.origins in
    let start : IsOpened p l next c.in_ok-mesh.mesh = opened p l next c.in_ok-mesh.mesh (c.in_ok-mesh.ensures l layout) in
    remap_stands p old next l c.as_slice.result.now c.in_ok-mesh.mesh c.carry_leaves.new.mesh c.restart_epochs.new.self r (subst (AreOrigins old.tree (leaves next)) (sym c.as_slice.ensures.value) are) start
    c.in_ok-carry_leaves.ensures c.tree-3.ensures.kept c.restart_epochs.ensures

pub returns-clause-fresh : goal.returns-clause-fresh
returns-clause-fresh c =
    let p = settings_of c.args.problem.now in
    let l = c.of-layout.result in
    let old = c.args.old.now in
    let next = c.args.tree in
    let layout : IsLayoutFor p l = record { dims = c.of-layout.ensures.dims; cells = c.of-layout.ensures.cells } in
    let r : Remap p old next l = record { can = c.requires; kept = c.tree.ensures.kept; next_kept = c.leaf_origins.ensures.next; layout_is = record { dims = c.of-layout.ensures.dims ∙ sym c.requires.stored.dims; cells = c.of-layout.ensures.cells ∙ sym c.requires.stored.cells } } in
    let are : AreOrigins old.tree (leaves next) c.in_ok-origins.origins.items = subst (λ (t : TreeOfBlocks). AreOrigins t (leaves next) c.in_ok-origins.origins.items) c.tree.ensures.tree c.in_ok-origins.ensures.origins in
    let start : IsOpened p l next c.in_ok-mesh.mesh = opened p l next c.in_ok-mesh.mesh (c.in_ok-mesh.ensures l layout) in
    fresh p old next l c.as_slice.result.now c.in_ok-mesh.mesh c.carry_leaves.new.mesh c.restart_epochs.new.self r (subst (AreOrigins old.tree (leaves next)) (sym c.as_slice.ensures.value) are) start
    c.in_ok-carry_leaves.ensures c.tree-3.ensures.kept c.restart_epochs.ensures
