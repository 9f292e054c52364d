use Rattle.std.proofs.Common.{◌∙◌, ◌+◌, sym}
use Rattle.problem_set.specs.SettingsOf.{settings_of}
use Rattle.mesh_rules.specs.Fields.{field_count}
use Rattle.cell_block.specs.Whole.{AddsOn, AreOpened}
use Rattle.cell_block.proofs.Openings.{on_ok, opened_dense}
use Rattle.cell_block.proofs.opening.open_field.Goals as goal

pub returns-clause-opened : goal.returns-clause-opened
returns-clause-opened c =
    let a = c.args in
    let p = settings_of a.problem.now in
    on_ok c.add_field.result (AddsOn a.layout.now a.field a.leaves a.store.now c.add_field.new.store) (AreOpened p a.layout.now a.leaves (field_count p) (a.field + 1) c.add_field.new.store)
    (λ adds. opened_dense p a.layout.now a.leaves (field_count p) a.field a.store.now c.add_field.new.store c.requires.opened (sym c.is_sparse.ensures ∙ c.if-is_sparse.false) adds) c.add_field.ensures
