use Rattle.std.proofs.Common.{ℕ, ◌++◌, ◌∷◌, [], List, ap, sym, refl, ◌∙◌, arith}
use Rattle.std.specs.Prelude.{slice_index}
use Rattle.std.proofs.lemmas.List.FromFn.{map-range_with_len_more}
use Rattle.block_tree.specs.Blocks.{TreeOfBlocks, leaves}
use Rattle.std.specs.Prelude.{length}
use Rattle.mesh_rules.specs.Sums.{table}
use Rattle.cell_block.proofs.Tables.{table_by}
use Rattle.cycle_openings.proofs.opening.counters_of.Goals as goal

pub loop-leaf-preserved : goal.loop-leaf-preserved
loop-leaf-preserved c =
    let each = slice_index c.args.mesh.now.counters in
    let leaf = c.loop-leaf.leaf in
    c.in_ok-push.ensures.items
    ∙ ap (λ (xs : List ℕ). xs ++ c.counter.result ∷ []) c.loop-leaf.invariant
    ∙ ap (λ (n : ℕ). table leaf each ++ n ∷ []) c.counter.ensures
    ∙ sym (map-range_with_len_more each 0 leaf leaf (omega arith))

pub returns : goal.returns
returns c =
    let counters = c.args.mesh.now.counters in
    let count = c.len-leaves.ensures.count ∙ ap (λ (t : TreeOfBlocks). length (leaves t)) c.tree.ensures.tree in
    let long = c.tree.ensures.kept.counters in
    c.loop-leaf.invariant
    ∙ sym (table_by counters c.loop-leaf.leaf (slice_index counters) 0 (omega (arith, long, count, c.loop-leaf-test.false, c.loop-leaf.auto.leaf-end)) (λ k less. refl))
