use Rattle.std.proofs.Common.{◌≡◌, ℕ, ◌<◌, List, [], ap, arith, length, subst, sym, ◌∙◌}
use Rattle.block_layout.specs.Regions.{interior}
use Rattle.block_regions.specs.Written.{StaysOffRegion}
use Rattle.dense_exchange.specs.FieldMeshes.{leaf_count}
use Rattle.dense_exchange.proofs.OnMeshes.{same_item}
use Rattle.dense_exchange.proofs.Copied.{Copying, copying_ends, copying_goes_on, copying_starts, own_read, totals_long}
use Rattle.dense_exchange.proofs.leaves.copy_all.Goals as goal

pub loop-leaf-init : goal.loop-leaf-init
loop-leaf-init c = copying_starts c.args.on.now c.args.ghosts.now.items c.requires.ghosts

pub copy_own-requires-clause-own : goal.copy_own-requires-clause-own
copy_own-requires-clause-own c =
    let e = c.args.on.now in
    let few : c.loop-leaf.leaf < leaf_count e = omega (arith, c.loop-leaf-test.true, c.len-leaf-end.ensures, c.requires.ghosts.count) in
    ap length (c.as_slice.ensures ∙ own_read e c.loop-leaf.leaf c.index-on-on.result c.as_slice-totals.result.now c.index-totals-leaf.result c.requires.on few c.as_slice-totals.ensures c.index-on-on.is c.index-totals-leaf.is)
    ∙ totals_long e c.loop-leaf.leaf c.requires.on few

pub copy_own-requires-clause-cells : goal.copy_own-requires-clause-cells
copy_own-requires-clause-cells c =
    let e = c.args.on.now in
    let ghosts = c.loop-leaf.ghosts.items in
    let lists = c.loop-leaf.invariant.lists in
    let few : c.loop-leaf.leaf < leaf_count e = omega (arith, c.loop-leaf-test.true, c.len-leaf-end.ensures, c.requires.ghosts.count) in
    ap length (same_item ghosts c.loop-leaf.leaf c.index_mut.result.now [] (subst (λ v. c.loop-leaf.leaf < v) (sym lists.count) few) c.index_mut.ensures.value) ∙ lists.sizes c.loop-leaf.leaf few

pub loop-leaf-preserved : goal.loop-leaf-preserved
loop-leaf-preserved c =
    let e = c.args.on.now in
    let few : c.loop-leaf.leaf < leaf_count e = omega (arith, c.loop-leaf-test.true, c.len-leaf-end.ensures, c.requires.ghosts.count) in
    let ghosts = c.loop-leaf.ghosts.items in
    let here = same_item ghosts c.loop-leaf.leaf c.index_mut.result.now [] (subst (λ v. c.loop-leaf.leaf < v) (sym c.loop-leaf.invariant.lists.count) few) c.index_mut.ensures.value in
    copying_goes_on e c.loop-leaf.leaf ghosts c.as_slice.result.now c.copy_own.new.cells c.requires.on few c.loop-leaf.invariant
    (c.as_slice.ensures ∙ own_read e c.loop-leaf.leaf c.index-on-on.result c.as_slice-totals.result.now c.index-totals-leaf.result c.requires.on few c.as_slice-totals.ensures c.index-on-on.is c.index-totals-leaf.is)
    (c.copy_own.ensures.long ∙ ap length here)
    c.copy_own.ensures.own
    (subst (λ (v : List ℕ). StaysOffRegion e.layout.now (interior e.layout.now) v c.copy_own.new.cells) here c.copy_own.ensures.others)

pub returns : goal.returns
returns c =
    let all : c.loop-leaf.leaf ≡ leaf_count c.args.on.now = omega (arith, c.loop-leaf-test.false, c.loop-leaf.auto.leaf-end, c.len-leaf-end.ensures, c.requires.ghosts.count) in
    copying_ends c.args.on.now c.loop-leaf.ghosts.items (subst (λ v. Copying c.args.on.now v c.loop-leaf.ghosts.items) all c.loop-leaf.invariant)
