use Rattle.std.proofs.Common.{arith}
use Rattle.dense_stage.proofs.Items.{item_is}
use Rattle.dense_stage.proofs.LeafFlows.{flows_added}
use Rattle.dense_stage.proofs.domain.domain_flows.Goals as goal

pub loop-leaf-preserved : goal.loop-leaf-preserved
loop-leaf-preserved g c =
    let at = c.loop-leaf.leaf in
    let less = c.loop-leaf-test.true in
    let count = c.len-leaf-end.ensures.count in
    let faces = c.requires.1.0 in
    let flows = c.leaf_flows-flows.ensures in
    let kept = c.loop-leaf.invariant in
    let added = flows_added c.args.tree.now c.args.layout.now g.x c.args.faces.now at c.loop-leaf.inflow c.loop-leaf.outflow c.leaf_flows-flows.result.inflow c.leaf_flows-flows.result.outflow c.index.result.now c.index-in-loop-leaf.result.now
    c.requires.0 c.requires.1.1 (omega (arith, less, count)) kept.inflow_is kept.outflow_is
    (item_is c.args.faces.now.right.items at c.index.result.now (omega (arith, less, count, faces.rights.count)) c.index.ensures)
    (item_is c.args.faces.now.left.items at c.index-in-loop-leaf.result.now (omega (arith, less, count, faces.lefts.count)) c.index-in-loop-leaf.ensures)
    flows.inflow flows.outflow in
    record {
      inflow_is = added.inflow;
      outflow_is = added.outflow;
      most_in = omega (arith, kept.most_in, flows.most_in);
      most_out = omega (arith, kept.most_out, flows.most_out);
    }
