-- The tasks of a cycle: those of the stages, and three that wait for all partitions.
use Rattle.std.specs.Prelude.{◌≡◌, ℕ, ◌+◌, ◌-◌, ◌*◌, ◌/◌, ◌%◌, ◌≤◌, All, count_by, Bool, ◌&&◌, ◌||◌, cond, nat_eq, nat_lt, nat_le, List, [], ◌∷◌, Option, find, map, slice_index, slice_set}
use Rattle.std.specs.List.{list_all, range_with_len, slice_index_or}
use Rattle.task_lists.specs.declared.task.TaskKind.{TaskKind}
use Rattle.task_lists.specs.declared.task.TaskKind.TheVariants.{Send, Fill, Fluxes, Post, Fix, Update, React, Tag, Check}
use Rattle.task_lists.specs.Tasks.{Listed, is_ready}

-- how many tasks a partition has: six a stage, then three
abbrev pub task_count : ℕ → ℕ
task_count stages = 6 * stages + 3

-- the kinds of the tasks of a stage, and of the three last ones
abbrev pub stage_kinds : List TaskKind
stage_kinds = Send ∷ Fill ∷ Fluxes ∷ Post ∷ Fix ∷ Update ∷ []

abbrev pub last_kinds : List TaskKind
last_kinds = React ∷ Tag ∷ Check ∷ []

-- the kind of a task: with two stages 7 is the Fill of the second one, and 12 is React
abbrev pub kind_at : ℕ → ℕ → TaskKind
kind_at stages task = cond (nat_lt task (6 * stages)) (slice_index_or stage_kinds (task % 6) Send) (slice_index_or last_kinds (task - 6 * stages) Check)

-- a task of a partition of which so many are complete: each task is after the one before it
abbrev pub cycle_task : ℕ → ℕ → ℕ → Listed
cycle_task stages completed task = record {
  kind = kind_at stages task;
  stage = task / 6;
  after = cond (nat_eq task 0) [] (record { number = task - 1 } ∷ []);
  is_complete = nat_lt task completed;
}

-- the tasks of a partition of which so many are complete
abbrev pub cycle_tasks : ℕ → ℕ → List Listed
cycle_tasks stages completed = map (cycle_task stages completed) (range_with_len 0 (task_count stages))

-- the stages of a cycle, and how many tasks of each partition are complete
pub record CycleTasks : Type 0 where
  pub stages : ℕ
  pub completed : List ℕ

-- whether the stages are over on all partitions
abbrev pub stages_over : CycleTasks → Bool
stages_over c = list_all (λ n. nat_le (6 * c.stages) n) c.completed

-- whether the region of a task has started: the three last tasks wait until the stages are over everywhere
abbrev pub has_started : CycleTasks → ℕ → Bool
has_started c task = nat_lt task (6 * c.stages) || stages_over c

-- whether a task of a partition is ready, by those that it is after and by its region
abbrev pub may_start : CycleTasks → ℕ → ℕ → Bool
may_start c p task = is_ready (cycle_tasks c.stages (slice_index c.completed p)) (record { number = task }) && has_started c task

-- the least task of a partition that is ready
abbrev pub next_of : CycleTasks → ℕ → Option ℕ
next_of c p = find (may_start c p) (range_with_len 0 (task_count c.stages))

-- one task of a partition more is complete
abbrev pub with_next : CycleTasks → ℕ → CycleTasks
with_next c p = record c { completed = slice_set c.completed p (slice_index c.completed p + 1) }

-- This serves the private contracts of the crate: so many partitions wait for the end of their stages.
pub record IsCollection (stages : ℕ) (completed : List ℕ) (waiting : ℕ) : Type 0 where
  pub least : 1 ≤ stages
  pub most : stages ≤ 4
  pub within : All (λ n. n ≤ task_count stages) completed
  pub counted : waiting ≡ count_by (λ n. nat_lt n (6 * stages)) completed
