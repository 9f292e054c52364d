-- What a task that is out was lent.
use Rattle.std.specs.Prelude.{◌≡◌, ◌⊎◌, ℕ, ◌/◌, ◌<◌, Bool, true, false, Some, is_some, List, [], ◌∷◌, ◌++◌}
use Rattle.std.specs.List.{list_any}
use Rattle.cycle_rounds.specs.Events.{Each, is_of, reads}
use Rattle.cycle_rounds.specs.Plan.{is_due, is_reading}
use Rattle.cycle_rounds.specs.Protocol.{is_own}
use Rattle.sparse_rounds.specs.Agreement.{Agrees, LetterAgrees}
use Rattle.sparse_rounds.specs.Epochs.{Size}
use Rattle.sparse_pool.specs.declared.place.Place.{Place}
use Rattle.cycle_events.specs.declared.event.Event.{Event}
use Rattle.cycle_events.specs.declared.event.Event.TheVariants.{Take}
use Rattle.cycle_events.specs.Cycles.{Cycle, IsCycle, StateOf, forget, machine, plan, state_of}
use Rattle.cycle_events.specs.Places.{has_buffer, is_lent, lent, places_where}
use Rattle.cycle_events.specs.Journals.{IsJournal}

-- whether a place stands before another: by block, then field
abbrev pub IsBefore : Place → Place → Type 0
IsBefore p q = (p.block < q.block) ⊎ ((p.block ≡ q.block) × (p.field < q.field))

-- places by block, then field, none twice
abbrev pub AreRising : List Place → Type 0
AreRising [] = Unit {0}
AreRising (p ∷ rest) = Each (IsBefore p) rest × AreRising rest

abbrev pub PlacesRise : Type 0
PlacesRise = (size : Size) (test : ℕ → ℕ → Bool) → AreRising (places_where size test)

-- what a list's lease has while it is out: each place that is lent has its buffer; the buffers agree with the mesh of
-- the list's stage; and so does what is read of each letter that is due to it
pub record HoldsLease {X V G F P W : Type 0} (c : Cycle X V G F P W) (s : StateOf X V G F P W) (list : ℕ) : Type 0 where
  pub there : (b f : ℕ) → c.kernels.owner b ≡ list → is_lent c s b f ≡ true → has_buffer c s b f ≡ true
  pub buffers : (b f : ℕ) → c.kernels.owner b ≡ list →
      Agrees c.kernels c.start (s.given list) true (s.local list) b f
  pub letters : (x : X) → is_reading (plan c) (s.given list) ≡ true → is_due (plan c) (s.given list / 3) x ≡ true →
      (plan c).to x ≡ list →
      LetterAgrees c.kernels c.start (s.given list / 3) x (reads (plan c) (machine c) s (s.given list / 3) x)

abbrev pub LeasesHold : (X V G F P W : Type 0) → Type 0
LeasesHold X V G F P W =
    (c : Cycle X V G F P W) (events : List Event) (list : ℕ) → IsCycle c → IsJournal c events →
    is_some ((state_of c events).out list) ≡ true → HoldsLease c (state_of c events) list

-- what a Take lends is what it tells: the list's next task, and its places
pub record Lends {X V G F P W : Type 0} (c : Cycle X V G F P W) (seat list task : ℕ) (places : List Place)
    (s : StateOf X V G F P W) : Type 0 where
  pub out : s.out list ≡ Some seat
  pub next : s.given list ≡ task
  pub lent : lent c s list ≡ places

abbrev pub TakesLend : (X V G F P W : Type 0) → Type 0
TakesLend X V G F P W =
    (c : Cycle X V G F P W) (events : List Event) (seat list task : ℕ) (places : List Place) →
    IsJournal c (events ++ Take seat list task places ∷ []) →
    Lends c seat list task places (state_of c (events ++ Take seat list task places ∷ []))

-- a list's lease between two states: its task, its seat and its places stay, so do the list's buffers and the letters
-- that came to it; buffers may only be added
pub record StaysOut {X V G F P W : Type 0} (c : Cycle X V G F P W) (list : ℕ) (s t : StateOf X V G F P W) : Type 0 where
  pub task : t.given list ≡ s.given list
  pub out : t.out list ≡ s.out list
  pub lent : (b f : ℕ) → (t.local list).leased b f ≡ (s.local list).leased b f
  pub buffers : (b f : ℕ) → is_some ((s.local list).bufs b f) ≡ true → (t.local list).bufs b f ≡ (s.local list).bufs b f
  pub letters : (r : ℕ) (x : X) → (plan c).to x ≡ list → list_any (is_of (plan c) r x) s.mail ≡ true →
      list_any (is_of (plan c) r x) t.mail ≡ true

-- a lease stays so while no event of its own list comes
abbrev pub LeasesStayOut : (X V G F P W : Type 0) → Type 0
LeasesStayOut X V G F P W =
    (c : Cycle X V G F P W) (events more : List Event) (list : ℕ) → IsCycle c → IsJournal c (events ++ more) →
    list_any (λ (event : Event). is_own list (forget event)) more ≡ false →
    StaysOut c list (state_of c events) (state_of c (events ++ more))
