use Rattle.std.proofs.Common.{◌∙◌, sym}
use Rattle.flow_laws.proofs.Flows.{domain_flows}
use Rattle.dense_stage.specs.Blocks.{block_in}
use Rattle.dense_stage.proofs.LeafFlows.{leaf_at, sound_block}
use Rattle.dense_stage.proofs.Staged.{can_pass, staged_cells, updated_small}
use Rattle.dense_stage.proofs.each_leaf.stage_leaf.Goals as goal

pub update_leaf-requires-clause-passes : goal.update_leaf-requires-clause-passes
update_leaf-requires-clause-passes g c =
    let a = c.args in
    let at = leaf_at a.tree.now a.leaf c.requires.1.0 in
    let given = c.requires.1.1.1.1.1 in
    can_pass (block_in a.tree.now a.layout.now g.x at.0) a.cells.now a.right.now a.left.now (sound_block a.tree.now a.layout.now g.x a.leaf at.0 c.requires.0 at.1) (given.1.0 at.0 at.1) (given.1.1.0 at.0 at.1) (given.1.1.1 a.leaf at.0 at.1) given.0

pub returns-clause-inflow : goal.returns-clause-inflow
returns-clause-inflow g c l get =
    let a = c.args in
    let flows = domain_flows (block_in a.tree.now a.layout.now g.x l) a.right.now a.left.now (sound_block a.tree.now a.layout.now g.x a.leaf l c.requires.0 get) (c.requires.1.1.1.1.1.1.1.0 l get) in
    c.leaf_flows-flows.ensures.inflow l get ∙ sym flows.inflow

pub returns-clause-outflow : goal.returns-clause-outflow
returns-clause-outflow g c l get =
    let a = c.args in
    let flows = domain_flows (block_in a.tree.now a.layout.now g.x l) a.right.now a.left.now (sound_block a.tree.now a.layout.now g.x a.leaf l c.requires.0 get) (c.requires.1.1.1.1.1.1.1.0 l get) in
    c.leaf_flows-flows.ensures.outflow l get ∙ sym flows.outflow

pub returns-clause-staged : goal.returns-clause-staged
returns-clause-staged g c l get =
    let a = c.args in
    let given = c.requires.1.1.1.1.1 in
    staged_cells (block_in a.tree.now a.layout.now g.x l) a.cells.now a.right.now a.left.now c.update_leaf.new.cells (sound_block a.tree.now a.layout.now g.x a.leaf l c.requires.0 get) (given.1.0 l get) (given.1.1.0 l get) c.update_leaf.ensures.passed

pub returns-clause-totals : goal.returns-clause-totals
returns-clause-totals g c =
    let a = c.args in
    let at = leaf_at a.tree.now a.leaf c.requires.1.0 in
    let given = c.requires.1.1.1.1.1 in
    updated_small (block_in a.tree.now a.layout.now g.x at.0) a.cells.now a.right.now a.left.now c.update_leaf.new.cells (sound_block a.tree.now a.layout.now g.x a.leaf at.0 c.requires.0 at.1) (given.1.0 at.0 at.1) (given.1.1.0 at.0 at.1)
    (given.1.1.1 a.leaf at.0 at.1) given.0 (c.update_leaf.ensures.size ∙ c.requires.1.1.0) c.update_leaf.ensures.passed c.update_leaf.ensures.ghosts
