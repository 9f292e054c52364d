use Rattle.std.proofs.Common.{◌≡◌, ap, subst, ℕ, arith}
use Rattle.problem_set.specs.SettingsOf.{settings_of}
use Rattle.mesh_rules.specs.Fields.{field_count}
use Rattle.cell_block.specs.Store.{Placed}
use Rattle.cell_block.specs.Whole.{AreOpened}
use Rattle.cell_block.proofs.Openings.{opened_new, opened_value}
use Rattle.cell_block.proofs.opening.opening_store.Goals as goal

pub loop-field-init : goal.loop-field-init
loop-field-init c =
    let a = c.args in
    let p = settings_of a.problem.now in
    record {
      size = ap (λ (s : Placed). s.size) c.in_ok-store.ensures;
      opened = opened_new p a.layout.now a.size a.leaves (field_count p) c.count-count.result c.in_ok-store.store c.in_ok-store.ensures c.count-count.ensures.number;
    }

pub returns : goal.returns
returns c =
    let a = c.args in
    let p = settings_of a.problem.now in
    let all : c.loop-field.field ≡ field_count p = omega (arith, c.loop-field-test.false, c.loop-field.auto.field-end, c.count-count.ensures.number) in
    opened_value p a.layout.now a.size a.leaves (field_count p) c.loop-field.store c.restart_epochs.new.self c.loop-field.invariant.size
    (subst (λ (n : ℕ). AreOpened p a.layout.now a.leaves (field_count p) n c.loop-field.store) all c.loop-field.invariant.opened) c.lists.ensures.kept c.restart_epochs.ensures
