-- The packs that are noted of a cycle's lists, and the pack of a task.
use Rattle.std.specs.Prelude.{◌≡◌, ℕ, ◌*◌, ◌%◌, cond, nat_lt, Option, None, Some, is_none, is_some, List}
use Rattle.sparse_pool.specs.declared.place.Place.{Place}
use Rattle.sparse_pool.specs.declared.place.PackKind.{PackKind}
use Rattle.sparse_pool.specs.declared.place.PackKind.TheVariants.{All, Ghost, Flux}
use Rattle.pack_cache.specs.declared.pack.Pack.{Pack}
use Rattle.pack_cache.specs.Notes.{Noted, noted_under, of_kind, of_partition}
use Rattle.cycle_events.specs.declared.event.Event.{Event}
use Rattle.cycle_events.specs.Cycles.{Cycle, state_of}
use Rattle.cycle_events.specs.Epochs.{IsFor}
use Rattle.cycle_events.specs.Packs.{IsTrueOf, epoch}
use Rattle.cycle_events.specs.Places.{kind_of, listed}

-- the kind of a task, where there are so many stages: of a stage's six, Ghost to send and to fill ghosts, Flux for the
-- others; All in the tail
abbrev pub kind_at : ℕ → ℕ → PackKind
kind_at stages task = cond (nat_lt task (6 * stages)) (cond (nat_lt (task % 6) 2) Ghost Flux) All

-- the pack of a task: the one that is noted, or else a new one, which is fresh
abbrev pub fresh_of : Option Pack → Pack → Option Pack
fresh_of None new = Some new
fresh_of (Some _) new = None

module _ {X V G F P W : Type 0} (c : Cycle X V G F P W) where
  -- a pack that is noted of a list and a kind is theirs, and true of some events; and all that are noted are
  pub record IsNote (events : List Event) (list : ℕ) (kind : PackKind) (pack : Pack) : Type 0 where
    pub own_list : pack.partition ≡ list
    pub own_kind : pack.kind ≡ kind
    pub holds : IsTrueOf c pack events

  abbrev pub NotesHold : List Event → List Noted → Type 0
  NotesHold events notes = (list : ℕ) (kind : PackKind) (pack : Pack) →
      of_kind (of_partition notes list) kind ≡ Some pack → IsNote events list kind pack

  -- what is noted for a task of a list after some events
  abbrev pub noted_for : List Event → List Noted → ℕ → ℕ → Option Pack
  noted_for events notes list task = noted_under notes list (kind_of c.kernels task) (epoch c events list)

  -- the places of a task, and a new pack of them
  abbrev pub places_for : List Event → ℕ → ℕ → List Place
  places_for events list task = listed c (state_of c events) list (kind_of c.kernels task)

  abbrev pub pack_for : List Event → ℕ → ℕ → Pack
  pack_for events list task = record {
    partition = list;
    kind = kind_of c.kernels task;
    epoch = epoch c events list;
    places = places_for events list task;
  }

  -- a pack that was made for a task: it suits the task, is true, and has its places
  pub record IsMade (events : List Event) (list task : ℕ) (pack : Pack) : Type 0 where
    pub suits : IsFor c events list task pack
    pub holds : IsTrueOf c pack events
    pub lists : pack.places ≡ places_for events list task

  -- a pack is made exactly where none is noted
  pub record HasPack (events : List Event) (list task : ℕ) (notes : List Noted) (fresh : Option Pack) : Type 0 where
    pub none_noted : is_some fresh ≡ is_none (noted_for events notes list task)
    pub new : (pack : Pack) → fresh ≡ Some pack → IsMade events list task pack
