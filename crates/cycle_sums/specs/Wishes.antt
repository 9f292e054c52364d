-- The wishes of blocks, as far as their lists have told them.
use Rattle.std.specs.Prelude.{◌≡◌, ◌==◌, ℕ, ◌+◌, ◌*◌, ◌<◌, ◌≤◌, Option, None, Some, List, find, length, replicate}
use Rattle.std.specs.List.{slice_index_or}
use Rattle.cycle_rounds.specs.Events as rounds
use Rattle.cycle_rounds.specs.Events.{Letter}
use Rattle.sparse_rounds.specs.Sparse.{Local}
use Rattle.cycle_events.specs.Cycles.{Cycle, StateOf, next, opening}

module _ {X V G F P W : Type 0} (c : Cycle X V G F P W) where
  -- for each block what its list has told
  pub record ShowsWishes (s : StateOf X V G F P W) (wishes : List (Option W)) : Type 0 where
    pub as_many : length wishes ≡ c.size.blocks
    pub each : (b : ℕ) → b < c.size.blocks →
        slice_index_or wishes b None ≡ (s.local (c.kernels.owner b)).wishes b

  -- wishes of which those of a list's blocks are now what it tells
  pub record AreTold (list : ℕ) (l : Local V G F W) (old new : List (Option W)) : Type 0 where
    pub as_many : length new ≡ length old
    pub own : (b : ℕ) → b < c.size.blocks → c.kernels.owner b ≡ list → slice_index_or new b None ≡ l.wishes b
    pub others : (b : ℕ) → (c.kernels.owner b ≡ list → ⊥) →
        slice_index_or new b None ≡ slice_index_or old b None

-- no block has told its wish as a cycle begins
abbrev pub OpeningsWishNothing : (X V G F P W : Type 0) → Type 0
OpeningsWishNothing X V G F P W = (c : Cycle X V G F P W) → ShowsWishes c (opening c) (replicate c.size.blocks None)

-- a Take and a Deliver leave wishes, and so does a Give of a task that does not tag; a Give that tags tells its list's
abbrev pub TakesWishNothing : (X V G F P W : Type 0) → Type 0
TakesWishNothing X V G F P W =
    (c : Cycle X V G F P W) (s : StateOf X V G F P W) (wishes : List (Option W)) (seat list : ℕ) →
    ShowsWishes c s wishes → ShowsWishes c (next c s (rounds.take seat list)) wishes

abbrev pub DeliveriesWishNothing : (X V G F P W : Type 0) → Type 0
DeliveriesWishNothing X V G F P W =
    (c : Cycle X V G F P W) (s : StateOf X V G F P W) (wishes : List (Option W)) (seat number : ℕ)
    (l : Letter X (ℕ → P)) → find (λ (y : Letter X (ℕ → P)). y.number == number) s.wire ≡ Some l →
    ShowsWishes c s wishes → ShowsWishes c (next c s (rounds.deliver seat number)) wishes

abbrev pub GivesWish : (X V G F P W : Type 0) → Type 0
GivesWish X V G F P W =
    (c : Cycle X V G F P W) (s : StateOf X V G F P W) (old new : List (Option W)) (seat list : ℕ) →
    ShowsWishes c s old → AreTold c list ((next c s (rounds.give seat list)).local list) old new →
    ShowsWishes c (next c s (rounds.give seat list)) new

abbrev pub OthersWishNothing : (X V G F P W : Type 0) → Type 0
OthersWishNothing X V G F P W =
    (c : Cycle X V G F P W) (s : StateOf X V G F P W) (wishes : List (Option W)) (seat list : ℕ) →
    (s.given list ≡ 6 * c.kernels.stages + 1 → ⊥) → ShowsWishes c s wishes →
    ShowsWishes c (next c s (rounds.give seat list)) wishes

-- wishes of which those from a block on are these
pub record AreSetFrom {W : Type 0} (first : ℕ) (told : List (Option W)) (old new : List (Option W)) : Type 0 where
  pub as_many : length new ≡ length old
  pub set : (k : ℕ) → k < length told → slice_index_or new (first + k) None ≡ slice_index_or told k None
  pub before : (b : ℕ) → b < first → slice_index_or new b None ≡ slice_index_or old b None
  pub after : (b : ℕ) → first + length told ≤ b → slice_index_or new b None ≡ slice_index_or old b None

-- so many blocks from one on are those of a list, and these are its wishes for them
pub record AreWishesOf {X V G F P W : Type 0} (c : Cycle X V G F P W) (list : ℕ) (l : Local V G F W) (first : ℕ)
    (told : List (Option W)) : Type 0 where
  pub own : (b : ℕ) → b < c.size.blocks → c.kernels.owner b ≡ list → (first ≤ b) × (b < first + length told)
  pub only : (b : ℕ) → first ≤ b → b < first + length told → c.kernels.owner b ≡ list
  pub each : (k : ℕ) → k < length told → slice_index_or told k None ≡ l.wishes (first + k)

-- where they are set the wishes of the list are told
abbrev pub SettingTells : (X V G F P W : Type 0) → Type 0
SettingTells X V G F P W =
    (c : Cycle X V G F P W) (list first : ℕ) (l : Local V G F W) (told old new : List (Option W)) →
    AreWishesOf c list l first told → AreSetFrom first told old new → AreTold c list l old new
