use Rattle.std.proofs.Common.{◌≡◌, ◌+◌, ◌<◌, ◌≤◌, ℕ, List, [], length, length-set, ap, subst, sym, ◌∙◌, arith, get_or-set_other}
use Rattle.std.specs.List.{slice_index_or, slice_set}
use Rattle.std.proofs.lemmas.List.{get_or_default}
use Rattle.block_tree.specs.Blocks.{TreeOfBlocks, leaves}
use Rattle.field_bufs.specs.declared.buf.FieldBuf.{FieldBuf}
use Rattle.cell_block.specs.State.{leaf_count}
use Rattle.remesh.specs.Fields.{AreOnLeaf, CanCarry}
use Rattle.remesh.specs.Leaves.{LeafOf, leaf_with, plain}
use Rattle.remesh.specs.Sources.{counter_after}
use Rattle.remesh.specs.Stores.{CanStore, IsLeafStored}
use Rattle.remesh.proofs.CarriedMore.{can_carry, can_store, carried_more}
use Rattle.remesh.proofs.parallel.store_leaves.Goals as goal

pub store_leaf-requires-clause-leaf : goal.store_leaf-requires-clause-leaf
store_leaf-requires-clause-leaf c =
    let l = c.args.layout.now in
    let old = c.args.old.now in
    let origins = c.args.origins.now in
    let start = c.args.mesh.now in
    let k = c.loop-number.number in
    let is : plain c.leaf_with-leaf.result ≡ leaf_with l old start.tree origins k = c.leaf_with-leaf.ensures ∙ ap (λ (t : TreeOfBlocks). leaf_with l old t origins k) (c.tree-in-loop-number.ensures.tree ∙ c.loop-number.invariant.done.frame.tree) in
    let count : length (leaves c.tree.result.now) ≡ leaf_count start = ap (λ (t : TreeOfBlocks). length (leaves t)) c.tree.ensures.tree in
    subst CanCarry (sym is) (can_carry l old origins start k c.requires.mesh (omega (arith, count, c.len-number-end.ensures.count, c.loop-number-test.true)))

pub store_leaf-requires-clause-mesh : goal.store_leaf-requires-clause-mesh
store_leaf-requires-clause-mesh c =
    let l = c.args.layout.now in
    let old = c.args.old.now in
    let origins = c.args.origins.now in
    let start = c.args.mesh.now in
    let k = c.loop-number.number in
    let is : plain c.leaf_with-leaf.result ≡ leaf_with l old start.tree origins k = c.leaf_with-leaf.ensures ∙ ap (λ (t : TreeOfBlocks). leaf_with l old t origins k) (c.tree-in-loop-number.ensures.tree ∙ c.loop-number.invariant.done.frame.tree) in
    let count : length (leaves c.tree.result.now) ≡ leaf_count start = ap (λ (t : TreeOfBlocks). length (leaves t)) c.tree.ensures.tree in
    subst (λ (n : LeafOf). CanStore n c.loop-number.mesh) (sym is)
    (can_store l old origins start c.loop-number.mesh k c.requires.mesh (omega (arith, count, c.len-number-end.ensures.count, c.loop-number-test.true)) (omega (arith, count, c.len-number-end.ensures.kept.few)) c.loop-number.invariant.done)

pub store_leaf-requires-clause-bufs : goal.store_leaf-requires-clause-bufs
store_leaf-requires-clause-bufs c =
    let l = c.args.layout.now in
    let old = c.args.old.now in
    let origins = c.args.origins.now in
    let start = c.args.mesh.now in
    let k = c.loop-number.number in
    let is : plain c.leaf_with-leaf.result ≡ leaf_with l old start.tree origins k = c.leaf_with-leaf.ensures ∙ ap (λ (t : TreeOfBlocks). leaf_with l old t origins k) (c.tree-in-loop-number.ensures.tree ∙ c.loop-number.invariant.done.frame.tree) in
    let count : length (leaves c.tree.result.now) ≡ leaf_count start = ap (λ (t : TreeOfBlocks). length (leaves t)) c.tree.ensures.tree in
    let small : k < leaf_count start = omega (arith, count, c.len-number-end.ensures.count, c.loop-number-test.true) in
    let here : c.replace-bufs.result ≡ slice_index_or c.args.all.items k [] =
    c.replace-bufs.ensures.value ∙ c.index_mut.ensures.value
    ∙ get_or_default c.loop-number.all.items k c.index_mut.result.now [] (omega (arith, small, c.requires.bufs.count, c.loop-number.invariant.long))
    ∙ c.loop-number.invariant.rest k [] (omega arith) in
    subst (λ (n : LeafOf). AreOnLeaf n c.replace-bufs.result) (sym is) (subst (AreOnLeaf (leaf_with l old start.tree origins k)) (sym here) (c.requires.bufs.each k small))

pub loop-number-preserved : goal.loop-number-preserved
loop-number-preserved c =
    let l = c.args.layout.now in
    let old = c.args.old.now in
    let origins = c.args.origins.now in
    let start = c.args.mesh.now in
    let now = c.loop-number.mesh in
    let new = c.store_leaf.new.mesh in
    let k = c.loop-number.number in
    let is : plain c.leaf_with-leaf.result ≡ leaf_with l old start.tree origins k = c.leaf_with-leaf.ensures ∙ ap (λ (t : TreeOfBlocks). leaf_with l old t origins k) (c.tree-in-loop-number.ensures.tree ∙ c.loop-number.invariant.done.frame.tree) in
    let count : length (leaves c.tree.result.now) ≡ leaf_count start = ap (λ (t : TreeOfBlocks). length (leaves t)) c.tree.ensures.tree in
    record {
      done = carried_more l old origins start now new k c.requires.mesh (omega (arith, count, c.len-number-end.ensures.count, c.loop-number-test.true)) c.tree-in-loop-number.ensures.kept c.loop-number.invariant.done
          (subst (λ (n : LeafOf). IsLeafStored n now new) is c.in_ok-store_leaf.ensures.stored)
          (subst (λ (n : LeafOf). new.counters ≡ slice_set now.counters n.number (counter_after n.old n.origin)) is c.in_ok-store_leaf.ensures.counters);
      long = length-set c.loop-number.all.items k c.replace-bufs.new.dest ∙ c.loop-number.invariant.long;
      rest = λ j d high. get_or-set_other c.loop-number.all.items k j c.replace-bufs.new.dest d (λ e. omega (arith, e, high)) ∙ c.loop-number.invariant.rest j d (omega (arith, high));
    }
