use Rattle.std.proofs.Common.{◌≡◌, ◌<◌, ◌∙◌, ℕ, List, arith, ap, length}
use Rattle.block_tree.specs.Blocks.{leaves}
use Rattle.dense_stage.specs.Own.{own_cells}
use Rattle.dense_stage.proofs.GhostLists.{leaf_staged, next_leaf, next_passes, totals_more}
use Rattle.dense_stage.proofs.Items.{read_again}
use Rattle.dense_stage.proofs.staging.stage_leaves.Goals as goal

pub loop-leaf-init : goal.loop-leaf-init
loop-leaf-init g c = record { ghosts_staged = record { fit = c.requires.1.0; rest = λ k o from get. c.requires.1.1.0 k o get }; totals_are = c.in_ok-totals.ensures.items }

pub update_leaf-requires-clause-passes : goal.update_leaf-requires-clause-passes
update_leaf-requires-clause-passes g c =
    let t = c.args.tree.now in
    let l = c.args.layout.now in
    let at = c.loop-leaf.leaf in
    let ghosts = c.loop-leaf.ghosts.items in
    let rest = c.requires.1.1.1 in
    let here : at < length (leaves t) = omega (arith, c.loop-leaf-test.true, c.len-leaf-end.ensures.count) in
    let next = next_leaf t l g.x at ghosts c.args.faces.now c.index_mut.result.now c.index.result.now c.index-in-loop-leaf.result.now c.requires.0 here c.loop-leaf.invariant.ghosts_staged rest.0 rest.1.0 rest.1.1 c.index_mut.ensures.value c.index.ensures c.index-in-loop-leaf.ensures in
    next_passes t l g.x at ghosts c.index_mut.result.now c.index.result.now c.index-in-loop-leaf.result.now next

pub own_of-requires : goal.own_of-requires
own_of-requires g c =
    let t = c.args.tree.now in
    let l = c.args.layout.now in
    let at = c.loop-leaf.leaf in
    let ghosts = c.loop-leaf.ghosts.items in
    let rest = c.requires.1.1.1 in
    let here : at < length (leaves t) = omega (arith, c.loop-leaf-test.true, c.len-leaf-end.ensures.count) in
    let next = next_leaf t l g.x at ghosts c.args.faces.now c.index_mut.result.now c.index.result.now c.index-in-loop-leaf.result.now c.requires.0 here c.loop-leaf.invariant.ghosts_staged rest.0 rest.1.0 rest.1.1 c.index_mut.ensures.value c.index.ensures c.index-in-loop-leaf.ensures in
    let made = leaf_staged t l g.x at ghosts c.index_mut.result.now c.index.result.now c.index-in-loop-leaf.result.now c.update_leaf.new.cells next c.update_leaf.ensures.passed c.update_leaf.ensures.ghosts c.update_leaf.ensures.size in
    let new = c.update_leaf.new.cells in
    let read : c.as_slice.result.now ≡ new = c.as_slice.ensures ∙ read_again ghosts at new c.index-in-loop-leaf-2.result.now (omega (arith, here, next.so_far.fit.count)) c.index-in-loop-leaf-2.ensures in
    ap (λ (v : List ℕ). length v) read ∙ c.update_leaf.ensures.size ∙ ap (λ (v : List ℕ). length v) next.cells_is ∙ next.so_far.fit.sizes at here

pub returns-in_err-own_of-clause-ghosts : goal.returns-in_err-own_of-clause-ghosts
returns-in_err-own_of-clause-ghosts g c =
    let t = c.args.tree.now in
    let l = c.args.layout.now in
    let at = c.loop-leaf.leaf in
    let ghosts = c.loop-leaf.ghosts.items in
    let rest = c.requires.1.1.1 in
    let here : at < length (leaves t) = omega (arith, c.loop-leaf-test.true, c.len-leaf-end.ensures.count) in
    let next = next_leaf t l g.x at ghosts c.args.faces.now c.index_mut.result.now c.index.result.now c.index-in-loop-leaf.result.now c.requires.0 here c.loop-leaf.invariant.ghosts_staged rest.0 rest.1.0 rest.1.1 c.index_mut.ensures.value c.index.ensures c.index-in-loop-leaf.ensures in
    let made = leaf_staged t l g.x at ghosts c.index_mut.result.now c.index.result.now c.index-in-loop-leaf.result.now c.update_leaf.new.cells next c.update_leaf.ensures.passed c.update_leaf.ensures.ghosts c.update_leaf.ensures.size in
    made.now.fit

pub returns-in_err-push-clause-ghosts : goal.returns-in_err-push-clause-ghosts
returns-in_err-push-clause-ghosts g c =
    let t = c.args.tree.now in
    let l = c.args.layout.now in
    let at = c.loop-leaf.leaf in
    let ghosts = c.loop-leaf.ghosts.items in
    let rest = c.requires.1.1.1 in
    let here : at < length (leaves t) = omega (arith, c.loop-leaf-test.true, c.len-leaf-end.ensures.count) in
    let next = next_leaf t l g.x at ghosts c.args.faces.now c.index_mut.result.now c.index.result.now c.index-in-loop-leaf.result.now c.requires.0 here c.loop-leaf.invariant.ghosts_staged rest.0 rest.1.0 rest.1.1 c.index_mut.ensures.value c.index.ensures c.index-in-loop-leaf.ensures in
    let made = leaf_staged t l g.x at ghosts c.index_mut.result.now c.index.result.now c.index-in-loop-leaf.result.now c.update_leaf.new.cells next c.update_leaf.ensures.passed c.update_leaf.ensures.ghosts c.update_leaf.ensures.size in
    made.now.fit

pub loop-leaf-preserved : goal.loop-leaf-preserved
loop-leaf-preserved g c =
    let t = c.args.tree.now in
    let l = c.args.layout.now in
    let at = c.loop-leaf.leaf in
    let ghosts = c.loop-leaf.ghosts.items in
    let rest = c.requires.1.1.1 in
    let here : at < length (leaves t) = omega (arith, c.loop-leaf-test.true, c.len-leaf-end.ensures.count) in
    let next = next_leaf t l g.x at ghosts c.args.faces.now c.index_mut.result.now c.index.result.now c.index-in-loop-leaf.result.now c.requires.0 here c.loop-leaf.invariant.ghosts_staged rest.0 rest.1.0 rest.1.1 c.index_mut.ensures.value c.index.ensures c.index-in-loop-leaf.ensures in
    let made = leaf_staged t l g.x at ghosts c.index_mut.result.now c.index.result.now c.index-in-loop-leaf.result.now c.update_leaf.new.cells next c.update_leaf.ensures.passed c.update_leaf.ensures.ghosts c.update_leaf.ensures.size in
    let new = c.update_leaf.new.cells in
    let read : c.as_slice.result.now ≡ new = c.as_slice.ensures ∙ read_again ghosts at new c.index-in-loop-leaf-2.result.now (omega (arith, here, next.so_far.fit.count)) c.index-in-loop-leaf-2.ensures in
    record {
      ghosts_staged = made.now;
      totals_are = c.in_ok-push.ensures.items
          ∙ totals_more t g.x at c.loop-leaf.totals.items c.in_ok-own_of.field-0 here c.loop-leaf.invariant.totals_are (λ o get. c.in_ok-own_of.ensures ∙ ap (own_cells l) read ∙ made.own o get);
    }
