use Rattle.std.proofs.Common.{◌≡◌, ◌<◌, ◌≤◌, length, ap, subst, ◌∙◌, arith}
use Rattle.block_tree.specs.Blocks.{TreeOfBlocks, leaves}
use Rattle.problem_set.specs.SettingsOf.{settings_of}
use Rattle.mesh_rules.specs.Fields.{field_count}
use Rattle.cell_block.specs.State.{leaf_count}
use Rattle.cell_block.specs.Rules.{IsLayoutFor}
use Rattle.remesh.specs.Openings.{AreFieldsOpened}
use Rattle.remesh.proofs.Opened.{IsOpened, opened}
use Rattle.remesh.proofs.OpenBlocks.{can_open, field_opened, none_of_fields}
use Rattle.remesh.proofs.OpenedState.{opening_fresh, opening_stands}
use Rattle.remesh.proofs.opening.first_mesh.Goals as goal

pub loop-field-init : goal.loop-field-init
loop-field-init c =
    let p = settings_of c.args.problem.now in
    let l = c.of-layout.result in
    let layout : IsLayoutFor p l = record { dims = c.of-layout.ensures.dims; cells = c.of-layout.ensures.cells } in
    none_of_fields p l c.args.tree c.args.problem.now.boxes c.in_ok-mesh.mesh (opened p l c.args.tree c.in_ok-mesh.mesh (c.in_ok-mesh.ensures l layout))

pub open_field-requires : goal.open_field-requires
open_field-requires c =
    let p = settings_of c.args.problem.now in
    let l = c.of-layout.result in
    let layout : IsLayoutFor p l = record { dims = c.of-layout.ensures.dims; cells = c.of-layout.ensures.cells } in
    let some : c.loop-field.field < field_count p = omega (arith, c.count-field-end.ensures.number, c.loop-field-test.true) in
    can_open p l c.args.tree c.args.problem.now.boxes c.in_ok-mesh.mesh c.loop-field.mesh c.loop-field.field layout (opened p l c.args.tree c.in_ok-mesh.mesh (c.in_ok-mesh.ensures l layout)) some
    (omega (arith, some, c.count-field-end.ensures.sound.few)) c.loop-field.invariant

pub loop-field-preserved : goal.loop-field-preserved
loop-field-preserved c =
    let p = settings_of c.args.problem.now in
    let l = c.of-layout.result in
    let layout : IsLayoutFor p l = record { dims = c.of-layout.ensures.dims; cells = c.of-layout.ensures.cells } in
    let first = opened p l c.args.tree c.in_ok-mesh.mesh (c.in_ok-mesh.ensures l layout) in
    let count : leaf_count c.in_ok-mesh.mesh ≡ length (leaves c.args.tree) = ap (λ (t : TreeOfBlocks). length (leaves t)) first.tree in
    field_opened p l c.args.problem.now.boxes c.in_ok-mesh.mesh c.loop-field.mesh c.open_field.new.mesh c.loop-field.field (omega (arith, count, c.len.ensures.kept.few)) c.loop-field.invariant c.in_ok-open_field.ensures

pub returns-clause-state : goal.returns-clause-state
returns-clause-state c =
    let p = settings_of c.args.problem.now in
    let l = c.of-layout.result in
    let layout : IsLayoutFor p l = record { dims = c.of-layout.ensures.dims; cells = c.of-layout.ensures.cells } in
    let start = c.in_ok-mesh.mesh in
    let first = opened p l c.args.tree start (c.in_ok-mesh.ensures l layout) in
    let all : c.loop-field.field ≡ field_count p = omega (arith, c.count-field-end.ensures.number, c.loop-field-test.false, c.loop-field.auto.field-end) in
    let done = subst (AreFieldsOpened p l c.args.problem.now.boxes start c.loop-field.mesh) all c.loop-field.invariant in
    opening_stands c.args.problem.now c.args.tree l start c.loop-field.mesh c.restart_epochs.new.self c.requires c.len.ensures.kept.few layout.dims layout.cells first done c.tree.ensures.kept c.restart_epochs.ensures

pub returns-clause-fresh : goal.returns-clause-fresh
returns-clause-fresh c =
    let p = settings_of c.args.problem.now in
    let l = c.of-layout.result in
    let layout : IsLayoutFor p l = record { dims = c.of-layout.ensures.dims; cells = c.of-layout.ensures.cells } in
    let start = c.in_ok-mesh.mesh in
    let first = opened p l c.args.tree start (c.in_ok-mesh.ensures l layout) in
    let all : c.loop-field.field ≡ field_count p = omega (arith, c.count-field-end.ensures.number, c.loop-field-test.false, c.loop-field.auto.field-end) in
    let done = subst (AreFieldsOpened p l c.args.problem.now.boxes start c.loop-field.mesh) all c.loop-field.invariant in
    opening_fresh c.args.problem.now c.args.tree l start c.loop-field.mesh c.restart_epochs.new.self c.requires c.len.ensures.kept.few layout.dims layout.cells first done c.tree.ensures.kept c.restart_epochs.ensures
