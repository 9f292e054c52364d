-- Packs of places, and the epoch that tells whether they are still those of their list.
use Rattle.std.specs.Prelude.{◌≡◌, ◌==◌, ℕ, List, [], ◌++◌, count_by, sum_by}
use Rattle.sparse_pool.specs.declared.place.Place.{Place}
use Rattle.pack_cache.specs.declared.pack.Pack.{Pack}
use Rattle.cycle_events.specs.declared.event.Event.{Event}
use Rattle.cycle_events.specs.declared.event.Event.TheVariants.{Take, Give, Deliver}
use Rattle.cycle_events.specs.Cycles.{Cycle, state_of}
use Rattle.cycle_events.specs.Places.{listed}

-- the places at which an event makes or frees a buffer
abbrev pub changed : Event → List Place
changed (Take seat list task places) = []
changed (Give seat list task made freed) = made ++ freed
changed (Deliver seat letter made) = made

module _ {X V G F P W : Type 0} (c : Cycle X V G F P W) where
  -- the epoch of a list: at how many places of its blocks the events made or freed a buffer
  abbrev pub epoch : List Event → ℕ → ℕ
  epoch events list =
      sum_by (λ (event : Event). count_by (λ (at : Place). c.kernels.owner at.block == list) (changed event)) events

  -- a pack that has the places of its list after the first of some events, at the epoch that these give
  pub record IsTrueOf (pack : Pack) (events : List Event) : Type 0 where
    pub first : List Event
    pub more : List Event
    pub parts : events ≡ first ++ more
    pub at_epoch : epoch first pack.partition ≡ pack.epoch
    pub places : pack.places ≡ listed c (state_of c first) pack.partition pack.kind
