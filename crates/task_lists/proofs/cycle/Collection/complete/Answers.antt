use Rattle.std.proofs.Common.{◌≡◌, ◌∙◌, sym, ap, subst, ◌+◌, ◌*◌, ◌<◌, ◌≤◌, cond, nat_eq, nat_lt, length, Some, slice_index, slice_set, ℕ, arith}
use Rattle.std.specs.Prelude.{count_by}
use Rattle.std.proofs.lemmas.List.Elements.{All-set}
use Rattle.task_lists.specs.Cycle.{CycleTasks, next_of, task_count, with_next}
use Rattle.task_lists.proofs.Counts.{byte_is, one_more}
use Rattle.task_lists.proofs.Ready.{cycle_of, next_is}
use Rattle.task_lists.proofs.cycle.Collection.complete.Goals as goal

pub overflow_add-done : goal.overflow_add-done
overflow_add-done c =
    let i = c.self.inside in
    let is = next_is i.stages i.completed.items c.args.p c.args.task (subst (λ (v : CycleTasks). next_of v c.args.p ≡ Some c.args.task) (sym c.self.view_is) c.requires.next) in
    let below : c.args.task < task_count i.stages = is.1 in
    omega (arith, below, c.self.invariant.most)

pub overflow_sub-self : goal.overflow_sub-self
overflow_sub-self c =
    let i = c.self.inside in
    let xs = i.completed.items in
    let is = next_is i.stages xs c.args.p c.args.task (subst (λ (v : CycleTasks). next_of v c.args.p ≡ Some c.args.task) (sym c.self.view_is) c.requires.next) in
    let within = subst (λ (v : CycleTasks). c.args.p < length v.completed) (sym c.self.view_is) c.requires.partition in
    let more = one_more xs c.args.p (6 * i.stages) within in
    let same : cond (nat_eq (slice_index xs c.args.p + 1) (6 * i.stages)) 1 0 ≡ c.from.result = ap (λ (n : ℕ). cond (nat_eq (n + 1) (6 * i.stages)) 1 0) (sym is.0) ∙ (sym (byte_is (nat_eq (c.args.task + 1) (6 * i.stages))) ∙ sym c.from.ensures) in
    omega (arith, more, same, c.self.invariant.counted)

pub invariant_of-self : goal.invariant_of-self
invariant_of-self c =
    let i = c.self.inside in
    let xs = i.completed.items in
    let is = next_is i.stages xs c.args.p c.args.task (subst (λ (v : CycleTasks). next_of v c.args.p ≡ Some c.args.task) (sym c.self.view_is) c.requires.next) in
    let within = subst (λ (v : CycleTasks). c.args.p < length v.completed) (sym c.self.view_is) c.requires.partition in
    let more = one_more xs c.args.p (6 * i.stages) within in
    let same : cond (nat_eq (slice_index xs c.args.p + 1) (6 * i.stages)) 1 0 ≡ c.from.result = ap (λ (n : ℕ). cond (nat_eq (n + 1) (6 * i.stages)) 1 0) (sym is.0) ∙ (sym (byte_is (nat_eq (c.args.task + 1) (6 * i.stages))) ∙ sym c.from.ensures) in
    let moved : count_by (λ n. nat_lt n (6 * i.stages)) (slice_set xs c.args.p (slice_index xs c.args.p + 1)) ≡ count_by (λ n. nat_lt n (6 * i.stages)) (slice_set xs c.args.p (c.args.task + 1)) =
    ap (λ (n : ℕ). count_by (λ n. nat_lt n (6 * i.stages)) (slice_set xs c.args.p (n + 1))) (sym is.0) in
    record {
      least = c.self.invariant.least;
      most = c.self.invariant.most;
      within = All-set (λ (n : ℕ). n ≤ task_count i.stages) xs c.args.p (c.args.task + 1) (let below : c.args.task < task_count i.stages = is.1 in omega (arith, below)) c.self.invariant.within;
      counted = omega (arith, more, same, moved, c.self.invariant.counted);
    }

pub returns : goal.returns
returns c =
    let i = c.self.inside in
    let xs = i.completed.items in
    let is = next_is i.stages xs c.args.p c.args.task (subst (λ (v : CycleTasks). next_of v c.args.p ≡ Some c.args.task) (sym c.self.view_is) c.requires.next) in
    subst (λ (v : CycleTasks). cycle_of i.stages (slice_set xs c.args.p (c.args.task + 1)) ≡ with_next v c.args.p) c.self.view_is
    (ap (λ (n : ℕ). cycle_of i.stages (slice_set xs c.args.p (n + 1))) is.0)
