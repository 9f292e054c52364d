-- What the epoch of a list tells of packs.
use Rattle.std.specs.Prelude.{◌≡◌, ℕ, List, [], ◌∷◌, ◌++◌, map}
use Rattle.sparse_rounds.specs.Epochs as changes
use Rattle.sparse_pool.specs.declared.place.Place.{Place}
use Rattle.pack_cache.specs.declared.pack.Pack.{Pack}
use Rattle.cycle_events.specs.declared.event.Event.{Event}
use Rattle.cycle_events.specs.declared.event.Event.TheVariants.{Take}
use Rattle.cycle_events.specs.Cycles.{Cycle, forget, opening, state_of}
use Rattle.cycle_events.specs.Places.{kind_of, listed}
use Rattle.cycle_events.specs.Journals.{IsJournal}
use Rattle.cycle_events.specs.Packs.{IsTrueOf, epoch}

-- the epoch that a journal tells is the number of changes of its list's buffers
abbrev pub EpochsAreTold : (X V G F P W : Type 0) → Type 0
EpochsAreTold X V G F P W =
    (c : Cycle X V G F P W) (events : List Event) (list : ℕ) → IsJournal c events →
    epoch c events list ≡ changes.epoch c.kernels c.start c.size (opening c) (map forget events) list

-- a pack that is true of some events is true of more; in a journal it has its list's places as long as it has the epoch
pub record StaysTrue {X V G F P W : Type 0} (c : Cycle X V G F P W) (pack : Pack) (events : List Event) : Type 0 where
  pub more : (more : List Event) → IsTrueOf c pack (events ++ more)
  pub listed : IsJournal c events → epoch c events pack.partition ≡ pack.epoch →
      pack.places ≡ listed c (state_of c events) pack.partition pack.kind

abbrev pub PacksStayTrue : (X V G F P W : Type 0) → Type 0
PacksStayTrue X V G F P W =
    (c : Cycle X V G F P W) (pack : Pack) (events : List Event) → IsTrueOf c pack events → StaysTrue c pack events

-- a pack of the places that a list has now, at its epoch, is true
abbrev pub FreshPacksAreTrue : (X V G F P W : Type 0) → Type 0
FreshPacksAreTrue X V G F P W =
    (c : Cycle X V G F P W) (pack : Pack) (events : List Event) → epoch c events pack.partition ≡ pack.epoch →
    pack.places ≡ listed c (state_of c events) pack.partition pack.kind → IsTrueOf c pack events

-- a pack for a task of a list: of its kind, at the list's epoch
pub record IsFor {X V G F P W : Type 0} (c : Cycle X V G F P W) (events : List Event) (list task : ℕ) (pack : Pack)
    : Type 0 where
  pub same_list : pack.partition ≡ list
  pub same_kind : pack.kind ≡ kind_of c.kernels task
  pub same_epoch : pack.epoch ≡ epoch c events list

-- a Take tells the places of each true pack for its task
abbrev pub TakesTellPacks : (X V G F P W : Type 0) → Type 0
TakesTellPacks X V G F P W =
    (c : Cycle X V G F P W) (events : List Event) (seat list task : ℕ) (places : List Place) (pack : Pack) →
    IsJournal c (events ++ Take seat list task places ∷ []) → IsTrueOf c pack events → IsFor c events list task pack →
    pack.places ≡ places
