use Rattle.std.proofs.Common.{◌≡◌, ◌∙◌, ℕ, ◌+◌, ◌<◌, ◌^◌, suc, List, ap, length, arith, sym}
use Rattle.problem_set.specs.SettingsOf.{settings_of}
use Rattle.mesh_rules.specs.Fields.{field_count}
use Rattle.mesh_rules.specs.Cycle.{stage_held, staged_to}
use Rattle.dense_mesh.proofs.Tables.{table_length}
use Rattle.dense_mesh.specs.Meshes.{mesh_of}
use Rattle.dense_cycle.specs.declared.fields.DomainFlow.{DomainFlow}
use Rattle.dense_cycle.specs.Fields.{passed_of}
use Rattle.dense_cycle.specs.Flows.{drop_of_stage}
use Rattle.dense_cycle.specs.Held.{held_of}
use Rattle.dense_cycle.specs.Sums.{IsSmallPassed}
use Rattle.dense_cycle.proofs.Added.{all_in_table, sums_next}
use Rattle.dense_cycle.proofs.stages.next_stage.Goals as goal

pub add_passed-requires-clause-fields : goal.add_passed-requires-clause-fields
add_passed-requires-clause-fields c =
    let q = settings_of c.args.problem.now in
    ap (λ (v : List DomainFlow). length v) (c.as_slice.ensures.value ∙ c.in_ok-staged.ensures.passed) ∙ table_length (field_count q) (passed_of q (mesh_of c.args.tree.now q.cells c.args.held.now.lists)) ∙ sym c.requires.sums.flow_count

pub add_passed-requires-clause-small : goal.add_passed-requires-clause-small
add_passed-requires-clause-small c =
    let q = settings_of c.args.problem.now in
    all_in_table IsSmallPassed (field_count q) (passed_of q (mesh_of c.args.tree.now q.cells c.args.held.now.lists)) c.as_slice.result.now (record { inflow = 0; outflow = 0 })
    (c.as_slice.ensures.value ∙ c.in_ok-staged.ensures.passed)
    (λ f inside. record { inflow = (c.requires.sums.passed f inside).0; outflow = (c.requires.sums.passed f inside).1 })

pub add_each-requires-clause-fields : goal.add_each-requires-clause-fields
add_each-requires-clause-fields c =
    let q = settings_of c.args.problem.now in
    ap (λ (v : List ℕ). length v) (c.as_slice-2.ensures.value ∙ c.in_ok-staged.ensures.dropped) ∙ table_length (field_count q) (drop_of_stage q (held_of c.args.tree.now q.cells c.args.held.now)) ∙ sym c.requires.sums.drop_count

pub add_each-requires-clause-more : goal.add_each-requires-clause-more
add_each-requires-clause-more c =
    let q = settings_of c.args.problem.now in
    all_in_table (λ n. n < 2 ^ 64) (field_count q) (drop_of_stage q (held_of c.args.tree.now q.cells c.args.held.now)) c.as_slice-2.result.now 0
    (c.as_slice-2.ensures.value ∙ c.in_ok-staged.ensures.dropped) c.requires.sums.dropped

pub returns-clause-held : goal.returns-clause-held
returns-clause-held c s n is =
    let q = settings_of c.args.problem.now in
    let e : suc n ≡ n + 1 = omega arith in
    c.in_ok-staged.ensures.held ∙ ap (stage_held q) is ∙ ap (staged_to q s) e

pub returns-clause-sums : goal.returns-clause-sums
returns-clause-sums c s n is has =
    let q = settings_of c.args.problem.now in
    sums_next q s n (held_of c.args.tree.now q.cells c.args.held.now) c.args.sums.now _ c.as_slice.result.now c.as_slice-2.result.now is has
    (c.as_slice.ensures.value ∙ c.in_ok-staged.ensures.passed) (c.as_slice-2.ensures.value ∙ c.in_ok-staged.ensures.dropped)
    c.add_passed.ensures.count c.add_passed.ensures.each c.add_each.ensures.count c.add_each.ensures.each
