-- Packs that are noted have the places of their tasks, and so have those that are made.
use Rattle.std.specs.Prelude.{◌≡◌, ℕ, Some, List, ◌++◌}
use Rattle.pack_cache.specs.declared.pack.Pack.{Pack}
use Rattle.pack_cache.specs.Notes.{Noted}
use Rattle.cycle_events.specs.declared.event.Event.{Event}
use Rattle.cycle_events.specs.Cycles.{Cycle}
use Rattle.cycle_events.specs.Journals.{IsJournal}
use Rattle.cycle_events.specs.Places.{kind_of}
use Rattle.sparse_rounds.specs.Kernels.{Kernels}
use Rattle.task_packs.specs.Noted.{HasPack, NotesHold, fresh_of, kind_at, noted_for, pack_for, places_for}

-- the kind of a task by its number is that by which journals list its places
abbrev pub KindsAreTold : (X V G F P W : Type 0) → Type 0
KindsAreTold X V G F P W = (k : Kernels X V G F P W) (task : ℕ) → kind_at k.stages task ≡ kind_of k task

-- what is noted for a task has its places
abbrev pub NotedPacksList : (X V G F P W : Type 0) → Type 0
NotedPacksList X V G F P W =
    (c : Cycle X V G F P W) (events : List Event) (notes : List Noted) (list task : ℕ) (pack : Pack) →
    IsJournal c events → NotesHold c events notes → noted_for c events notes list task ≡ Some pack →
    pack.places ≡ places_for c events list task

-- the pack of a task is the one that is noted, or else a new one
abbrev pub TasksHavePacks : (X V G F P W : Type 0) → Type 0
TasksHavePacks X V G F P W =
    (c : Cycle X V G F P W) (events : List Event) (notes : List Noted) (list task : ℕ) →
    HasPack c events list task notes (fresh_of (noted_for c events notes list task) (pack_for c events list task))

-- notes that hold go on to hold after more events
abbrev pub NotesStay : (X V G F P W : Type 0) → Type 0
NotesStay X V G F P W =
    (c : Cycle X V G F P W) (events more : List Event) (notes : List Noted) → NotesHold c events notes →
    NotesHold c (events ++ more) notes
