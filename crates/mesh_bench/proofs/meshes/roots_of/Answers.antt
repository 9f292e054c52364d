use Rattle.std.proofs.Common.{ap, ◌∙◌, Bool}
use Rattle.morton_order.specs.declared.space.Loc.{Loc}
use Rattle.block_tree.specs.Blocks.{tree_with}
use Rattle.mesh_bench.proofs.Openings.{opening_same}
use Rattle.mesh_bench.proofs.meshes.roots_of.Goals as goal

pub returns-in-Ok : goal.returns-in-Ok
returns-in-Ok c =
    let p = c.args.problem.now in
    c.in-Ok.ensures.opening ∙ ap (λ (inner : Loc → Bool). tree_with p.shape inner) (opening_same p (c.is_empty.ensures.0 c.if-is_empty.true))
