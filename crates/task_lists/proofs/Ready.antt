-- Which task of a cycle is next.
use Rattle.std.proofs.Common.{◌≡◌, ◌≢◌, ◌∙◌, sym, ap, refl, inl, inr, ℕ, zero, suc, ◌+◌, ◌-◌, ◌*◌, ◌<◌, ◌≤◌, Bool, true, false, not, ◌&&◌, ◌||◌, nat_eq, nat_lt, nat_le, Some, None, List, [], ◌∷◌, length, slice_index, slice_index_or, arith}
use Rattle.std.specs.Prelude.{count_by, find}
use Rattle.std.specs.List.{list_all, range_with_len}
use Rattle.std.proofs.lemmas.Bool.{cases_eq, cases_lt, cases_Bool, lt-ltb, eq-eqb, ne_eqb, cond-true, cond-false, and_left, and_right}
use Rattle.std.proofs.lemmas.Bool.Decides.{nat_tests}
use Rattle.std.proofs.lemmas.List.FromFn.{length-map-range_with_len, get_or-map-range_with_len}
use Rattle.task_lists.specs.declared.task.TaskId.{TaskId}
use Rattle.task_lists.specs.Tasks.{Listed, is_completed, is_ready, no_task}
use Rattle.task_lists.specs.Cycle.{CycleTasks, cycle_task, cycle_tasks, has_started, may_start, next_of, stages_over, task_count}
use Rattle.task_lists.proofs.Counts.{none_left}

pub find_at : (p : ℕ → Bool) (k a n : ℕ) → a ≤ k → k < a + n → ((t : ℕ) → a ≤ t → t < k → p t ≡ false) → p k ≡ true → find p (range_with_len a n) ≡ Some k
find_at p k a zero from below before here = absurd (let h : k < a + 0 = below in omega arith)
find_at p k a (suc n) from below before here = elim (cases_eq a k) [
  | inl e ↦ cond-true (p a) (Some a) (find p (range_with_len (a + 1) n)) (ap (λ (t : ℕ). p t) e ∙ here) ∙ ap (λ (t : ℕ). Some t) e
  | inr ne ↦
      let more : a < k = (let h : a ≢ k = ne in omega arith) in
      cond-false (p a) (Some a) (find p (range_with_len (a + 1) n)) (before a (omega arith) more)
      ∙ find_at p k (a + 1) n (omega arith) (omega arith) (λ t above under. before t (omega arith) under) here
]

pub find_none : (p : ℕ → Bool) (a n : ℕ) → ((t : ℕ) → a ≤ t → t < a + n → p t ≡ false) → find p (range_with_len a n) ≡ None
find_none p a zero fails = refl
find_none p a (suc n) fails =
    cond-false (p a) (Some a) (find p (range_with_len (a + 1) n)) (fails a (omega arith) (omega arith)) ∙ find_none p (a + 1) n (λ t above below. fails t (omega arith) (omega arith))

pub length_tasks : (stages k : ℕ) → length (cycle_tasks stages k) ≡ task_count stages
length_tasks stages k = length-map-range_with_len (cycle_task stages k) 0 (task_count stages)

pub task_at : (stages k t : ℕ) → t < task_count stages → slice_index_or (cycle_tasks stages k) t no_task ≡ cycle_task stages k t
task_at stages k t h = get_or-map-range_with_len (cycle_task stages k) 0 (task_count stages) t t no_task h (omega arith)

abbrev id_of : ℕ → TaskId
id_of n = record { number = n }

completed_is : (stages k t : ℕ) → t < task_count stages → is_completed (cycle_tasks stages k) (id_of t) ≡ nat_lt t k
completed_is stages k t h = ap (λ (task : Listed). task.is_complete) (task_at stages k t h)

before_is : (stages k t : ℕ) → t < task_count stages → list_all (is_completed (cycle_tasks stages k)) (cycle_task stages k t).after ≡ (nat_eq t 0 || nat_lt (t - 1) k)
before_is stages k t h = elim (cases_eq t 0) [
  | inl e ↦ ap (λ (ids : List TaskId). list_all (is_completed (cycle_tasks stages k)) ids) (cond-true (nat_eq t 0) [] (id_of (t - 1) ∷ []) (eq-eqb t 0 e))
      ∙ ap (λ (b : Bool). b || nat_lt (t - 1) k) (sym (eq-eqb t 0 e))
  | inr ne ↦ ap (λ (ids : List TaskId). list_all (is_completed (cycle_tasks stages k)) ids) (cond-false (nat_eq t 0) [] (id_of (t - 1) ∷ []) (ne_eqb t 0 ne))
      ∙ (ap (λ (b : Bool). b && true) (completed_is stages k (t - 1) (omega arith))
      ∙ (and_true (nat_lt (t - 1) k)
      ∙ ap (λ (b : Bool). b || nat_lt (t - 1) k) (sym (ne_eqb t 0 ne))))
]
  where
    and_true : (b : Bool) → (b && true) ≡ b
    and_true true = refl
    and_true false = refl

-- a task is ready exactly where as many are complete as stand before it
pub ready_is : (stages k t : ℕ) → t < task_count stages → is_ready (cycle_tasks stages k) (id_of t) ≡ nat_eq t k
ready_is stages k t h =
    let tasks = cycle_tasks stages k in
    ap (λ (b : Bool). b && (not (is_completed tasks (id_of t)) && list_all (is_completed tasks) (slice_index_or tasks t no_task).after)) (lt-ltb t (length tasks) (let n : length tasks ≡ task_count stages = length_tasks stages k in omega arith))
    ∙ (ap (λ (b : Bool). not b && list_all (is_completed tasks) (slice_index_or tasks t no_task).after) (completed_is stages k t h)
    ∙ (ap (λ (b : Bool). not (nat_lt t k) && b) (ap (λ (task : Listed). list_all (is_completed tasks) task.after) (task_at stages k t h) ∙ before_is stages k t h)
    ∙ by_tests t k))
  where
    by_tests : (t k : ℕ) → (not (nat_lt t k) && (nat_eq t 0 || nat_lt (t - 1) k)) ≡ nat_eq t k
    by_tests t k = grind (arith, nat_tests)

abbrev pub cycle_of : ℕ → List ℕ → CycleTasks
cycle_of stages completed = record { stages = stages; completed = completed }

-- whether the region of a task has started
abbrev pub region_open : ℕ → List ℕ → ℕ → Bool
region_open stages completed t = has_started (cycle_of stages completed) t

pub start_is : (stages : ℕ) (completed : List ℕ) (p t : ℕ) → t < task_count stages → may_start (cycle_of stages completed) p t ≡ (nat_eq t (slice_index completed p) && region_open stages completed t)
start_is stages completed p t h = ap (λ (b : Bool). b && region_open stages completed t) (ready_is stages (slice_index completed p) t h)

pub next_some : (stages : ℕ) (completed : List ℕ) (p k : ℕ) → k ≡ slice_index completed p → k < task_count stages → region_open stages completed k ≡ true → next_of (cycle_of stages completed) p ≡ Some k
next_some stages completed p k is h opened =
    find_at (may_start (cycle_of stages completed) p) k 0 (task_count stages) (omega arith) (omega arith)
    (λ t from before. start_is stages completed p t (omega arith) ∙ and_left (nat_eq t (slice_index completed p)) (region_open stages completed t) (ne_eqb t (slice_index completed p) (λ e. omega arith)))
    (start_is stages completed p k h ∙ (ap (λ (b : Bool). b && region_open stages completed k) (eq-eqb k (slice_index completed p) is) ∙ opened))

pub next_none : (stages : ℕ) (completed : List ℕ) (p k : ℕ) → k ≡ slice_index completed p → (k < task_count stages → region_open stages completed k ≡ false) → next_of (cycle_of stages completed) p ≡ None
next_none stages completed p k is closed =
    find_none (may_start (cycle_of stages completed) p) 0 (task_count stages) (λ t from below.
    let h : t < task_count stages = omega arith in
    start_is stages completed p t h
    ∙ elim (cases_eq t (slice_index completed p)) [
      | inl e ↦ and_right (nat_eq t (slice_index completed p)) (region_open stages completed t) (ap (λ (n : ℕ). region_open stages completed n) (e ∙ sym is) ∙ closed (omega arith))
      | inr ne ↦ and_left (nat_eq t (slice_index completed p)) (region_open stages completed t) (ne_eqb t (slice_index completed p) ne)
    ])

-- the next task is the one after those that are complete
pub next_is : (stages : ℕ) (completed : List ℕ) (p task : ℕ) → next_of (cycle_of stages completed) p ≡ Some task → (task ≡ slice_index completed p) × (task < task_count stages)
next_is stages completed p task e =
    let k = slice_index completed p in
    elim (cases_lt k (task_count stages)) [
      | inl h ↦ elim (cases_Bool (region_open stages completed k)) [
        | inl opened ↦
            let same : Some k ≡ Some task = sym (next_some stages completed p k refl h opened) ∙ e in
            let is : task ≡ k = cc in
            (is, omega arith)
        | inr closed ↦ absurd (let clash : None ≡ Some task = sym (next_none stages completed p k refl (λ _. closed)) ∙ e in cc)
      ]
      | inr past ↦ absurd (let clash : None ≡ Some task = sym (next_none stages completed p k refl (λ below. absurd (omega arith))) ∙ e in cc)
    ]

-- the stages are over where no partition waits
pub over_is : (stages : ℕ) (completed : List ℕ) → nat_eq (count_by (λ n. nat_lt n (6 * stages)) completed) 0 ≡ stages_over (cycle_of stages completed)
over_is stages completed = none_left (λ n. nat_lt n (6 * stages)) (λ n. nat_le (6 * stages) n) (λ n. flip n (6 * stages)) completed
  where
    flip : (n m : ℕ) → nat_le m n ≡ not (nat_lt n m)
    flip n m = grind (arith, nat_tests)
