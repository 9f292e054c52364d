use Rattle.std.proofs.Common.{ap, ◌∙◌, arith, ◌<◌}
use Rattle.problem_set.specs.SettingsOf.{settings_of}
use Rattle.mesh_rules.specs.Fields.{field_count}
use Rattle.mesh_rules.specs.Mesh.{total_of}
use Rattle.mesh_rules.specs.Cycle.{State}
use Rattle.cell_block.proofs.Tables.{table_by}
use Rattle.dump_writer.proofs.Sums.{total_is, total_small}
use Rattle.dump_writer.proofs.totals.field_totals.Goals as goal

pub add_blocks-requires-clause-bound : goal.add_blocks-requires-clause-bound
add_blocks-requires-clause-bound c f some = total_small (settings_of c.args.problem.now) c.args.mesh.now c.layout-layout.result.now f c.requires c.layout-layout.ensures some

pub returns-clause-totals : goal.returns-clause-totals
returns-clause-totals c s stands =
    let p = settings_of c.args.problem.now in
    let fields = c.requires.stored.fields in
    c.of.ensures
    ∙ table_by c.add_blocks.new.totals.items (field_count p) (total_of s.mesh) 0 (c.add_blocks.ensures.long ∙ fields)
    (λ f few.
    let some : f < c.args.mesh.now.fields = omega (arith, few, fields) in
    c.add_blocks.ensures.items f some ∙ total_is p c.args.mesh.now c.layout-layout.result.now f c.requires c.layout-layout.ensures some
    ∙ ap (λ (x : State). total_of x.mesh f) (stands.state c.layout-layout.result.now c.layout-layout.ensures))
