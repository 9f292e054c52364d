use Rattle.std.proofs.Common.{◌<◌, arith, length}
use Rattle.block_tree.specs.Blocks.{leaves}
use Rattle.dense_stage.proofs.Items.{get_within}
use Rattle.dense_stage.proofs.LeavesDone.{leaf_more}
use Rattle.dense_stage.proofs.PartSteps.{own_kept}
use Rattle.dense_stage.proofs.corrections.correct.Goals as goal

pub correct_leaf-requires : goal.correct_leaf-requires
correct_leaf-requires g c =
    let here : c.loop-leaf.leaf < length (leaves c.args.tree.now) = omega (arith, c.loop-leaf-test.true, c.len-leaf-end.ensures.count) in
    let own = own_kept c.args.tree.now c.args.layout.now g.x c.args.faces.now c.loop-leaf.faces c.requires.1.1 c.loop-leaf.invariant.done.kept in
    (c.requires.0, (here, (c.loop-leaf.invariant.fit, own)))

pub loop-leaf-preserved : goal.loop-leaf-preserved
loop-leaf-preserved g c =
    let made = c.in_ok-correct_leaf.ensures in
    record {
      fit = made.faces;
      done = leaf_more c.args.tree.now c.args.layout.now g.x c.loop-leaf.leaf c.args.faces.now c.loop-leaf.faces c.correct_leaf.new.faces c.loop-leaf.invariant.done made.kept made.done;
    }

pub returns-clause-pairs : goal.returns-clause-pairs
returns-clause-pairs g c leaf l get = c.loop-leaf.invariant.done.done leaf (omega (arith, get_within (leaves c.args.tree.now) leaf l get, c.loop-leaf-test.false, c.len-leaf-end.ensures.count)) l get
