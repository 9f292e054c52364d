use Rattle.std.proofs.Common.{◌≤◌, length, subst, arith}
use Rattle.block_tree.specs.Blocks.{TreeOfBlocks, leaves}
use Rattle.mesh_bench.specs.NextTrees.{IsNextOf}
use Rattle.mesh_bench.proofs.Openings.{opening_goes}
use Rattle.mesh_bench.proofs.meshes.change_of.Goals as goal

pub returns : goal.returns
returns c =
    let mesh = c.in_ok-mesh.mesh in
    let next = c.in_ok-next.next in
    opening_goes c.args.problem.now mesh next c.layout.result.now c.remap_laws.ensures (omega (arith, c.if-problem-eq0.false)) c.layout.ensures c.in_ok-mesh.ensures
    (subst (λ (t : TreeOfBlocks). length (leaves t) ≤ 65536) c.tree.ensures.tree c.len.ensures.kept.few)
    (subst (λ (t : TreeOfBlocks). IsNextOf t next) c.tree-2.ensures.tree c.in_ok-next.ensures)
