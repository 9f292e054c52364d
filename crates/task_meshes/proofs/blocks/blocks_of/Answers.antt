use Rattle.std.proofs.Common.{ℕ, ◌+◌, ◌*◌, min, ap, ◌∙◌}
use Rattle.mesh_rules.specs.Due.{partition_size}
use Rattle.task_meshes.specs.Meshes.{mesh_of}
use Rattle.task_meshes.proofs.Owned.{default_size, owned_run}
use Rattle.task_meshes.proofs.blocks.blocks_of.Goals as goal

pub returns-clause-owned : goal.returns-clause-owned
returns-clause-owned c b few =
    let size : ℕ = c.from-size.result in
    let pack = c.args.on.now.problem.now.pack_size in
    let leaves : ℕ = c.len-leaves.result in
    owned_run (mesh_of c.args.on.now) b c.args.list size c.min.result c.min-end.result c.requires few
    (c.from-size.ensures ∙ c.unwrap_or.ensures ∙ default_size pack leaves ∙ ap (partition_size pack) c.len-leaves.ensures.count)
    (c.min.ensures ∙ ap (λ (n : ℕ). min (n * size) c.from-3.result) c.from.ensures ∙ ap (min (c.args.list * size)) (c.from-3.ensures ∙ c.len-leaves.ensures.count))
    (c.min-end.ensures ∙ ap (λ (n : ℕ). min (n * size + size) c.from-2.result) c.from.ensures ∙ ap (min (c.args.list * size + size)) (c.from-2.ensures ∙ c.len-leaves.ensures.count))
