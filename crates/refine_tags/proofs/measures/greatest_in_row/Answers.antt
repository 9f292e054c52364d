use Rattle.std.proofs.Common.{ℕ, ◌+◌, ◌<◌, ◌≤◌, [], ◌∷◌, slice_index, subst, sym, arith}
use Rattle.mesh_settings.specs.declared.words.Method.{Method}
use Rattle.mesh_rules.specs.Tags.{difference}
use Rattle.refine_tags.specs.Measures.{measured_at, total_at}
use Rattle.refine_tags.proofs.Steps.{below_jump, jump_below, peak_each, peak_least, row_each, row_least}
use Rattle.refine_tags.proofs.measures.greatest_in_row.Goals as goal

pub returns-in-Peak-clause-each : goal.returns-in-Peak-clause-each
returns-in-Peak-clause-each c = λ x small.
    let l = c.args.layout.now in
    let total = total_at c.args.cells.now c.args.own.now in
    subst (λ (m : Method). measured_at m l total (x ∷ c.args.row ∷ c.args.plane ∷ []) ≤ c.greatest.result) (sym c.in-Peak.is)
    (peak_each (slice_index l.cells 0) c.row_at-here.result.now (λ x. total (x ∷ c.args.row ∷ c.args.plane ∷ [])) c.greatest.result x c.row_at-here.ensures.len c.greatest.ensures c.row_at-here.ensures.cells small)

pub returns-in-Peak-clause-least : goal.returns-in-Peak-clause-least
returns-in-Peak-clause-least c = λ most each.
    let l = c.args.layout.now in
    let total = total_at c.args.cells.now c.args.own.now in
    peak_least (slice_index l.cells 0) c.row_at-here.result.now (λ x. total (x ∷ c.args.row ∷ c.args.plane ∷ [])) c.greatest.result most c.row_at-here.ensures.len c.greatest.ensures c.row_at-here.ensures.cells
    (λ x small. subst (λ (m : Method). measured_at m l total (x ∷ c.args.row ∷ c.args.plane ∷ []) ≤ most) c.in-Peak.is (each x small))

pub returns-in-Jump-clause-each : goal.returns-in-Jump-clause-each
returns-in-Jump-clause-each c = λ x small.
    let l = c.args.layout.now in
    let total = total_at c.args.cells.now c.args.own.now in
    let row = c.args.row in
    let plane = c.args.plane in
    let here = c.row_at-here.ensures.cells x small in
    subst (λ (m : Method). measured_at m l total (x ∷ row ∷ plane ∷ []) ≤ c.max-in-Jump.result) (sym c.in-Jump.is)
    (jump_below l total x row plane c.max-in-Jump.result (record {
      along1 = λ next.
          let along = row_each (slice_index l.cells 0) c.row_at-here.result.now (λ x. total (x ∷ row ∷ plane ∷ [])) c.greatest_step.result x c.row_at-here.ensures.len c.greatest_step.ensures c.row_at-here.ensures.cells next in
          omega (arith, c.max.ensures, c.max-in-Jump.ensures);
      along2 = λ next.
          let beside = subst (λ v. difference v (total (x ∷ (row + 1) ∷ plane ∷ [])) ≤ c.step_beside.result) here (c.step_beside.ensures.each x small (record { row_in = next; plane_in = c.requires.row.plane_in })) in
          omega (arith, c.max.ensures, c.max-in-Jump.ensures);
      along3 = λ next.
          let beside = subst (λ v. difference v (total (x ∷ row ∷ (plane + 1) ∷ [])) ≤ c.step_beside-in-Jump.result) here (c.step_beside-in-Jump.ensures.each x small (record { row_in = c.requires.row.row_in; plane_in = next })) in
          omega (arith, c.max.ensures, c.max-in-Jump.ensures);
    }))

pub returns-in-Jump-clause-least : goal.returns-in-Jump-clause-least
returns-in-Jump-clause-least c = λ most each.
    let l = c.args.layout.now in
    let total = total_at c.args.cells.now c.args.own.now in
    let row = c.args.row in
    let plane = c.args.plane in
    let below = λ (x : ℕ) (small : x < slice_index l.cells 0). below_jump l total x row plane most (subst (λ (m : Method). measured_at m l total (x ∷ row ∷ plane ∷ []) ≤ most) c.in-Jump.is (each x small)) in
    let one = row_least (slice_index l.cells 0) c.row_at-here.result.now (λ x. total (x ∷ row ∷ plane ∷ [])) c.greatest_step.result most c.row_at-here.ensures.len c.greatest_step.ensures c.row_at-here.ensures.cells
    (λ x next. (below x (omega arith)).along1 next) in
    let two = c.step_beside.ensures.least most (λ x small is. subst (λ v. difference v (total (x ∷ (row + 1) ∷ plane ∷ [])) ≤ most) (sym (c.row_at-here.ensures.cells x small)) ((below x small).along2 is.row_in)) in
    let three = c.step_beside-in-Jump.ensures.least most (λ x small is. subst (λ v. difference v (total (x ∷ row ∷ (plane + 1) ∷ [])) ≤ most) (sym (c.row_at-here.ensures.cells x small)) ((below x small).along3 is.plane_in)) in
    omega (arith, c.max.ensures, c.max-in-Jump.ensures)
