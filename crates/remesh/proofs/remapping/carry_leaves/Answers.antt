use Rattle.std.proofs.Common.{◌≡◌, ◌<◌, length, ap, subst, sym, ◌∙◌, arith}
use Rattle.block_tree.specs.Blocks.{TreeOfBlocks, leaves}
use Rattle.cell_block.specs.State.{leaf_count}
use Rattle.remesh.specs.Fields.{CanCarry}
use Rattle.remesh.specs.Leaves.{LeafOf, leaf_with, plain}
use Rattle.remesh.specs.Sources.{counter_after}
use Rattle.remesh.specs.Stores.{CanStore, IsLeafStored}
use Rattle.std.specs.List.{slice_set}
use Rattle.remesh.proofs.CarriedMore.{can_carry, can_store, carried_more}
use Rattle.remesh.proofs.remapping.carry_leaves.Goals as goal

pub coming_fields-requires : goal.coming_fields-requires
coming_fields-requires c =
    let l = c.args.layout.now in
    let old = c.args.old.now in
    let origins = c.args.origins.now in
    let start = c.args.mesh.now in
    let k = c.loop-number.number in
    let is : plain c.leaf_with-leaf.result ≡ leaf_with l old start.tree origins k = c.leaf_with-leaf.ensures ∙ ap (λ (t : TreeOfBlocks). leaf_with l old t origins k) (c.tree-in-loop-number.ensures.tree ∙ c.loop-number.invariant.frame.tree) in
    let count : length (leaves c.tree.result.now) ≡ leaf_count start = ap (λ (t : TreeOfBlocks). length (leaves t)) c.tree.ensures.tree in
    subst CanCarry (sym is) (can_carry l old origins start k c.requires (omega (arith, count, c.len-number-end.ensures.count, c.loop-number-test.true)))

pub store_leaf-requires-clause-leaf : goal.store_leaf-requires-clause-leaf
store_leaf-requires-clause-leaf c =
    let l = c.args.layout.now in
    let old = c.args.old.now in
    let origins = c.args.origins.now in
    let start = c.args.mesh.now in
    let k = c.loop-number.number in
    let is : plain c.leaf_with-leaf.result ≡ leaf_with l old start.tree origins k = c.leaf_with-leaf.ensures ∙ ap (λ (t : TreeOfBlocks). leaf_with l old t origins k) (c.tree-in-loop-number.ensures.tree ∙ c.loop-number.invariant.frame.tree) in
    let count : length (leaves c.tree.result.now) ≡ leaf_count start = ap (λ (t : TreeOfBlocks). length (leaves t)) c.tree.ensures.tree in
    subst CanCarry (sym is) (can_carry l old origins start k c.requires (omega (arith, count, c.len-number-end.ensures.count, c.loop-number-test.true)))

pub store_leaf-requires-clause-mesh : goal.store_leaf-requires-clause-mesh
store_leaf-requires-clause-mesh c =
    let l = c.args.layout.now in
    let old = c.args.old.now in
    let origins = c.args.origins.now in
    let start = c.args.mesh.now in
    let k = c.loop-number.number in
    let is : plain c.leaf_with-leaf.result ≡ leaf_with l old start.tree origins k = c.leaf_with-leaf.ensures ∙ ap (λ (t : TreeOfBlocks). leaf_with l old t origins k) (c.tree-in-loop-number.ensures.tree ∙ c.loop-number.invariant.frame.tree) in
    let count : length (leaves c.tree.result.now) ≡ leaf_count start = ap (λ (t : TreeOfBlocks). length (leaves t)) c.tree.ensures.tree in
    subst (λ (n : LeafOf). CanStore n c.loop-number.mesh) (sym is)
    (can_store l old origins start c.loop-number.mesh k c.requires (omega (arith, count, c.len-number-end.ensures.count, c.loop-number-test.true)) (omega (arith, count, c.len-number-end.ensures.kept.few)) c.loop-number.invariant)

pub loop-number-preserved : goal.loop-number-preserved
loop-number-preserved c =
    let l = c.args.layout.now in
    let old = c.args.old.now in
    let origins = c.args.origins.now in
    let start = c.args.mesh.now in
    let now = c.loop-number.mesh in
    let new = c.store_leaf.new.mesh in
    let k = c.loop-number.number in
    let is : plain c.leaf_with-leaf.result ≡ leaf_with l old start.tree origins k = c.leaf_with-leaf.ensures ∙ ap (λ (t : TreeOfBlocks). leaf_with l old t origins k) (c.tree-in-loop-number.ensures.tree ∙ c.loop-number.invariant.frame.tree) in
    let count : length (leaves c.tree.result.now) ≡ leaf_count start = ap (λ (t : TreeOfBlocks). length (leaves t)) c.tree.ensures.tree in
    carried_more l old origins start now new k c.requires (omega (arith, count, c.len-number-end.ensures.count, c.loop-number-test.true)) c.tree-in-loop-number.ensures.kept c.loop-number.invariant
    (subst (λ (n : LeafOf). IsLeafStored n now new) is c.in_ok-store_leaf.ensures.stored)
    (subst (λ (n : LeafOf). new.counters ≡ slice_set now.counters n.number (counter_after n.old n.origin)) is c.in_ok-store_leaf.ensures.counters)
