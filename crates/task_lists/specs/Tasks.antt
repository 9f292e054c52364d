-- Tasks in a list, each after others of the list.
use Rattle.std.specs.Prelude.{◌≡◌, ◌⊎◌, ◌++◌, ◌∷◌, [], ℕ, Bool, true, false, not, ◌&&◌, nat_lt, List, length, Option, Some, None, Result, Ok, Err, option_map, find, slice_index_or, slice_set}
use Rattle.std.specs.List.{list_all}
use Rattle.task_lists.specs.declared.task.TaskKind.{TaskKind}
use Rattle.task_lists.specs.declared.task.TaskKind.TheVariants.{Send}
use Rattle.task_lists.specs.declared.task.TaskId.{TaskId}
use Rattle.task_lists.specs.declared.fault.TaskFault.{TaskFault}
use Rattle.task_lists.specs.declared.fault.TaskFault.TheVariants.{NoMemory, Unknown}

-- a task: its kind, its stage, the tasks that it is after, and whether it is complete
pub record Listed : Type 0 where
  pub kind : TaskKind
  pub stage : ℕ
  pub after : List TaskId
  pub is_complete : Bool

-- what stands in for a task that is not in the list
abbrev pub no_task : Listed
no_task = record { kind = Send; stage = 0; after = []; is_complete = false }

-- whether a task is in the list and complete
abbrev pub is_completed : List Listed → TaskId → Bool
is_completed tasks id = (slice_index_or tasks id.number no_task).is_complete

-- whether a task is in the list, not complete, and all that it is after are complete
abbrev pub is_ready : List Listed → TaskId → Bool
is_ready tasks id = nat_lt id.number (length tasks) && (not (is_completed tasks id) && list_all (is_completed tasks) (slice_index_or tasks id.number no_task).after)

-- the list in which a task is complete
abbrev pub with_completed : List Listed → TaskId → List Listed
with_completed tasks id = slice_set tasks id.number (record (slice_index_or tasks id.number no_task) { is_complete = true })

-- whether all tasks are complete
abbrev pub all_completed : List Listed → Bool
all_completed tasks = list_all (λ (t : Listed). t.is_complete) tasks

-- the first of some tasks that is not in a list of so many
abbrev pub first_unknown : ℕ → List TaskId → Option TaskId
first_unknown count after = find (λ (id : TaskId). not (nat_lt id.number count)) after

-- the list with a task at its end, which is not complete
abbrev pub with_task : List Listed → TaskKind → ℕ → List TaskId → List Listed
with_task tasks kind stage after = tasks ++ record { kind = kind; stage = stage; after = after; is_complete = false } ∷ []

-- a call that names this unknown task, where there is one, or that memory was wanting
abbrev pub Fails : {T : Type 0} → Option TaskId → Result T TaskFault → Type 0
Fails unknown (Ok _) = unknown ≡ None
Fails unknown (Err e) = (e ≡ NoMemory) ⊎ (option_map (λ (id : TaskId). Unknown id.number) unknown ≡ Some e)
