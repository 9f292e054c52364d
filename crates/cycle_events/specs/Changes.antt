-- The places that a delivery makes, and those that a Give makes and frees.
use Rattle.std.specs.Prelude.{◌≡◌, ◌==◌, ℕ, ◌+◌, ◌*◌, ◌%◌, true, cond, not, ◌&&◌, nat_lt, Some, is_some, List, [], find}
use Rattle.cycle_rounds.specs.Events as rounds
use Rattle.cycle_rounds.specs.Events.{Letter}
use Rattle.sparse_rounds.specs.Sparse.{keeps_checked, keeps_reacted}
use Rattle.sparse_pool.specs.declared.place.Place.{Place}
use Rattle.cycle_events.specs.declared.event.Event.{Event}
use Rattle.cycle_events.specs.Cycles.{Cycle, IsCycle, StateOf, state_of}
use Rattle.cycle_events.specs.Places.{freed_by, has_buffer, made_by, places_where}
use Rattle.cycle_events.specs.Journals.{IsJournal}

-- the places that the coming of a letter makes: none for a letter of flux sums; for a letter of ghosts those of its
-- receiver, of each Sparse field with ghosts that has no buffer there and a part that is not all zero
abbrev pub made_by_letter : {X V G F P W : Type 0} → Cycle X V G F P W → StateOf X V G F P W → Letter X (ℕ → P) →
    List Place
made_by_letter c s l = cond (l.round % 2 == 0)
    (places_where c.size (λ b f. b == c.kernels.to l.of && (not (has_buffer c s b f)
    && (c.kernels.is_sparse f && (c.kernels.has_ghosts f && not (c.kernels.is_blank (l.content f)))))))
    []

pub record IsDelivery {X V G F P W : Type 0} (c : Cycle X V G F P W) (s : StateOf X V G F P W) (seat number : ℕ)
    (l : Letter X (ℕ → P)) : Type 0 where
  pub made : made_by c s (rounds.deliver seat number) ≡ made_by_letter c s l
  pub freed : freed_by c s (rounds.deliver seat number) ≡ []

abbrev pub DeliveriesMake : (X V G F P W : Type 0) → Type 0
DeliveriesMake X V G F P W =
    (c : Cycle X V G F P W) (s : StateOf X V G F P W) (seat number : ℕ) (l : Letter X (ℕ → P)) →
    find (λ (y : Letter X (ℕ → P)). y.number == number) s.wire ≡ Some l → IsDelivery c s seat number l

-- the places that a list's task makes: to fill ghosts, those without a buffer of a Sparse field that something flows
-- into; to react, those without one that come to be kept; other tasks make none
abbrev pub made_by_work : {X V G F P W : Type 0} → Cycle X V G F P W → StateOf X V G F P W → ℕ → ℕ → List Place
made_by_work c s list task =
    cond (task == 6 * c.kernels.stages)
    (places_where c.size (λ b f. c.kernels.owner b == list
    && (not (has_buffer c s b f) && keeps_reacted c.kernels (s.local list) b f)))
    (cond (nat_lt task (6 * c.kernels.stages) && (task % 6 == 1))
    (places_where c.size (λ b f. c.kernels.owner b == list && (not (has_buffer c s b f)
    && (c.kernels.is_sparse f && (c.kernels.has_ghosts f && c.kernels.flows_in b f)))))
    [])

-- those that it frees: to check, those that are not kept; other tasks free none
abbrev pub freed_by_work : {X V G F P W : Type 0} → Cycle X V G F P W → StateOf X V G F P W → ℕ → ℕ → List Place
freed_by_work c s list task = cond (task == 6 * c.kernels.stages + 2)
    (places_where c.size (λ b f. c.kernels.owner b == list
    && (has_buffer c s b f && not (keeps_checked c.kernels (s.local list) b f))))
    []

pub record IsGiving {X V G F P W : Type 0} (c : Cycle X V G F P W) (s : StateOf X V G F P W) (seat list : ℕ)
    : Type 0 where
  pub made : made_by c s (rounds.give seat list) ≡ made_by_work c s list (s.given list)
  pub freed : freed_by c s (rounds.give seat list) ≡ freed_by_work c s list (s.given list)

abbrev pub GivesMake : (X V G F P W : Type 0) → Type 0
GivesMake X V G F P W =
    (c : Cycle X V G F P W) (events : List Event) (seat list : ℕ) → IsCycle c → IsJournal c events →
    is_some ((state_of c events).out list) ≡ true → IsGiving c (state_of c events) seat list
