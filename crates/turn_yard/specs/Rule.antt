-- The fact that holds of a yard's table between any two atomic steps.
-- Word 0 is the turn: 0 where it is free, else one more than the number of the seat that holds it. Word p + 1 is the mark of the partition p. The one slot has the value.
-- View 0 is the yard's own, and view n + 1 is that of the seat with the number n.
use Rattle.std.specs.Prelude.{◌≡◌, ◌≢◌, ℕ, suc, ◌<◌, ◌⊎◌, Bool, true, false, List, [], ◌∷◌, length, drop, slice_index, All, Option, Some}
use mathlib.Core.Option.{none, some}
use lib.ListN.{get_elem?}
use Rattle.atomic_table.specs.Table.{State}
use Rattle.turn_yard.specs.History.{Entry, bears, entries_of, StartsWith, NoneFalls}
use Rattle.turn_yard.specs.Tells.{Tells}
use Rattle.turn_yard.specs.declared.view.Known.{Known}
use Rattle.turn_yard.specs.declared.view.View.{View}

-- what the yard's own seat knows at first
abbrev pub keeper : List ℕ → List ℕ → View
keeper origin marks = record { known = record { number = 0; origin = origin; seen = []; own = []; noted = marks }; in_use = false; holds = false; made = 0; returned = [] }

-- the marks that the words are
abbrev pub marks_in : List ℕ → List ℕ
marks_in words = drop 1 words

-- what a seat knows is so: the origin, the front of the history that it has seen, its own entries in it, and no mark below one that it noted
pub record Knows (origin : List ℕ) (history : List Entry) (marks : List ℕ) (k : Known) : Type 0 where
  pub origin_is : k.origin ≡ origin
  pub seen : StartsWith history k.seen
  pub own : entries_of k.number history ≡ k.own
  pub noted : NoneFalls k.noted marks

-- a view stands there, and it is of no seat that is in use
abbrev pub IsSpent : List View → ℕ → Type 0
IsSpent views id = (v : View) × (get_elem? views id ≡ some v) × (v.in_use ≡ false)

-- the yard's own view counts the seats, and what it keeps of returned seats is so
pub record IsKeeper (origin : List ℕ) (history : List Entry) (marks : List ℕ) (views : List View) (v : View) : Type 0 where
  pub not_used : v.in_use ≡ false
  pub origin_is : v.known.origin ≡ origin
  pub noted : NoneFalls v.known.noted marks
  pub made : suc v.made ≡ length views
  pub known : All (Knows origin history marks) v.returned
  pub gone : All (λ k. IsSpent views (suc k.number)) v.returned

-- only the seat at the place, if any, holds the turn
abbrev pub OnlyHolds : List View → ℕ → Type 0
OnlyHolds views id = (j : ℕ) (v : View) → get_elem? views j ≡ some v → v.in_use ≡ true → j ≢ id → v.holds ≡ false

-- nobody holds the turn: the value is at home, and shows the history, the origin and the marks
pub record IsFree {T : Type 0} (t : Tells T) (origin : List ℕ) (history : List Entry) (s : State (Option T) View) : Type 0 where
  pub value : T
  pub turn : slice_index s.words 0 ≡ 0
  pub home : s.homes ≡ some (Some value) ∷ []
  pub entries : t.entries value ≡ history
  pub origin_is : t.origin value ≡ origin
  pub marks : t.marks value ≡ marks_in s.words
  pub holder : OnlyHolds s.views 0

-- one seat holds the turn and the slot: it has seen the whole history, and has noted the marks as they are
pub record IsHeld {T : Type 0} (history : List Entry) (s : State (Option T) View) : Type 0 where
  pub id : ℕ
  pub view : View
  pub turn : slice_index s.words 0 ≡ id
  pub home : s.homes ≡ none ∷ []
  pub here : get_elem? s.views id ≡ some view
  pub in_use : view.in_use ≡ true
  pub holds : view.holds ≡ true
  pub seen : view.known.seen ≡ history
  pub noted : view.known.noted ≡ marks_in s.words
  pub holder : OnlyHolds s.views id

-- the entry bears the number of a seat that was made
abbrev pub IsBorne : List View → Entry → Type 0
IsBorne views entry = (number : ℕ) × (suc number < length views) × (bears number entry ≡ true)

-- There is one history. It is the value's where the turn is free, and what the holder has seen where it is held
pub record IsOrderly {T : Type 0} (t : Tells T) (s : State (Option T) View) : Type 0 where
  pub origin : List ℕ
  pub history : List Entry
  pub some_word : 0 < length s.words
  pub own_view : View
  pub own_at : get_elem? s.views 0 ≡ some own_view
  pub own : IsKeeper origin history (marks_in s.words) s.views own_view
  pub place : (id : ℕ) (v : View) → get_elem? s.views id ≡ some v → v.in_use ≡ true → suc v.known.number ≡ id
  pub known : (id : ℕ) (v : View) → get_elem? s.views id ≡ some v → v.in_use ≡ true → Knows origin history (marks_in s.words) v.known
  pub borne : All (IsBorne s.views) history
  pub turn : IsFree t origin history s ⊎ IsHeld history s
