use Rattle.std.proofs.Common.{◌≡◌, List, sym, subst, ◌∙◌}
use Rattle.block_tree.specs.Blocks.{TreeOfBlocks, leaves}
use Rattle.problem_set.specs.SettingsOf.{settings_of}
use Rattle.dense_remesh.specs.declared.origins.Origin.{Origin}
use Rattle.dense_remesh.specs.Origins.{AreOrigins}
use Rattle.remesh.specs.Carries.{AreAllOnLeaves}
use Rattle.remesh.proofs.Finished.{carry_each}
use Rattle.remesh.proofs.InLists.{Remap}
use Rattle.remesh.proofs.parallel.remap.Goals as goal

pub coming_everywhere-requires-after_bounds : goal.coming_everywhere-requires-after_bounds
coming_everywhere-requires-after_bounds g c κs within =
    let p = settings_of c.args.problem.now in
    let l = c.of-layout.result in
    let old = c.args.old.now in
    let next = c.args.tree in
    let r : Remap p old next l = record { can = c.requires; kept = c.tree.ensures.kept; next_kept = c.leaf_origins.ensures.next; layout_is = record { dims = c.of-layout.ensures.dims ∙ sym c.requires.stored.dims; cells = c.of-layout.ensures.cells ∙ sym c.requires.stored.cells } } in
    let are : AreOrigins old.tree (leaves next) c.in_ok-origins.origins.items = subst (λ (t : TreeOfBlocks). AreOrigins t (leaves next) c.in_ok-origins.origins.items) c.tree.ensures.tree c.in_ok-origins.ensures.origins in
    carry_each p old next l c.as_slice.result.now r (subst (AreOrigins old.tree (leaves next)) (sym c.as_slice.ensures.value) are)

pub filled-requires-clause-bufs : goal.filled-requires-clause-bufs
filled-requires-clause-bufs g c =
    subst (λ (v : List Origin). AreAllOnLeaves c.of-layout.result c.args.old.now c.args.tree v c.in_ok-all.all.items) (c.as_slice.ensures.value ∙ sym c.as_slice-2.ensures.value) c.in_ok-all.ensures
