use Rattle.std.proofs.Common.{◌≡◌, ◌∙◌, sym, subst, ◌<◌, ◌*◌, length, true, false, nat_lt, Some, None, slice_index, arith}
use Rattle.std.proofs.lemmas.Bool.{le-ltb, lt-ltb, or_from, or_left, or_right}
use Rattle.std.proofs.lemmas.Grind.{get_or_default_zero}
use Rattle.task_lists.specs.Cycle.{CycleTasks, next_of, stages_over}
use Rattle.task_lists.proofs.Ready.{cycle_of, next_none, next_some}
use Rattle.task_lists.proofs.cycle.Collection.next.Goals as goal

pub returns-then-task-count : goal.returns-then-task-count
returns-then-task-count c =
    let i = c.self.inside in
    let p = c.args.p in
    let k = c.index-task.result.now in
    let within = subst (λ (v : CycleTasks). p < length v.completed) (sym c.self.view_is) c.requires in
    let read : k ≡ slice_index i.completed.items p = c.index-task.ensures ∙ get_or_default_zero i.completed.items p k within in
    subst (λ (v : CycleTasks). None ≡ next_of v p) c.self.view_is
    (sym (next_none i.stages i.completed.items p k read (λ below. absurd (omega (arith, below, c.if-task-count.true)))))

pub returns-then-task-last : goal.returns-then-task-last
returns-then-task-last c =
    let i = c.self.inside in
    let p = c.args.p in
    let k = c.index-task.result.now in
    let within = subst (λ (v : CycleTasks). p < length v.completed) (sym c.self.view_is) c.requires in
    let read : k ≡ slice_index i.completed.items p = c.index-task.ensures ∙ get_or_default_zero i.completed.items p k within in
    subst (λ (v : CycleTasks). Some k ≡ next_of v p) c.self.view_is
    (sym (next_some i.stages i.completed.items p k read (omega (arith, c.if-task-last.true))
    (or_left (nat_lt k (6 * i.stages)) (stages_over (cycle_of i.stages i.completed.items)) (lt-ltb k (6 * i.stages) c.if-task-last.true))))

pub returns-then-is_over : goal.returns-then-is_over
returns-then-is_over c =
    let i = c.self.inside in
    let p = c.args.p in
    let k = c.index-task.result.now in
    let within = subst (λ (v : CycleTasks). p < length v.completed) (sym c.self.view_is) c.requires in
    let read : k ≡ slice_index i.completed.items p = c.index-task.ensures ∙ get_or_default_zero i.completed.items p k within in
    let over = subst (λ (v : CycleTasks). stages_over v ≡ true) (sym c.self.view_is) (sym c.is_over.ensures ∙ c.if-is_over.true) in
    subst (λ (v : CycleTasks). Some k ≡ next_of v p) c.self.view_is
    (sym (next_some i.stages i.completed.items p k read (omega (arith, c.if-task-count.false))
    (or_right (nat_lt k (6 * i.stages)) (stages_over (cycle_of i.stages i.completed.items)) over)))

pub returns-else-is_over : goal.returns-else-is_over
returns-else-is_over c =
    let i = c.self.inside in
    let p = c.args.p in
    let k = c.index-task.result.now in
    let within = subst (λ (v : CycleTasks). p < length v.completed) (sym c.self.view_is) c.requires in
    let read : k ≡ slice_index i.completed.items p = c.index-task.ensures ∙ get_or_default_zero i.completed.items p k within in
    let waits = subst (λ (v : CycleTasks). stages_over v ≡ false) (sym c.self.view_is) (sym c.is_over.ensures ∙ c.if-is_over.false) in
    subst (λ (v : CycleTasks). None ≡ next_of v p) c.self.view_is
    (sym (next_none i.stages i.completed.items p k read (λ _.
    or_from (nat_lt k (6 * i.stages)) (stages_over (cycle_of i.stages i.completed.items)) (le-ltb k (6 * i.stages) c.if-task-last.false) waits)))
