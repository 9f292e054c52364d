use Rattle.std.proofs.lemmas.Result.{on_ok_weaker}
use Rattle.dense_exchange.specs.declared.field_mesh.FieldMesh.{FieldMesh}
use Rattle.dense_exchange.proofs.Around.{mesh_seen}
use Rattle.dense_exchange.proofs.leaves.exchange.Goals as goal

pub returns-clause-sees : goal.returns-clause-sees
returns-clause-sees c =
    let e : FieldMesh = record { problem = c.args.problem; tree = c.args.tree; layout = c.args.layout; lists = c.args.lists; field = c.args.field } in
    on_ok_weaker c.fill_all.result (mesh_seen e c.fill_all.new.ghosts.items) c.fill_all.ensures.filled
