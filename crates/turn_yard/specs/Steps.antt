-- What each kind of atomic step on a yard's table tells, of the step, the seat before, the number found and the seat after.
use Rattle.std.specs.Prelude.{◌≡◌, ◌≢◌, ℕ, ◌+◌, ◌≤◌, Bool, true, false, List, [], ◌∷◌, ◌++◌, slice_index, slice_set, Option, Some}
use Rattle.atomic_table.specs.Table.{Me, Step}
use Rattle.turn_yard.specs.History.{Entry, entries_of, StartsWith, NoneFalls, added_to}
use Rattle.turn_yard.specs.Tells.{Tells}
use Rattle.turn_yard.specs.declared.view.Known.{Known}
use Rattle.turn_yard.specs.declared.view.View.{View}

abbrev pub Sat : Type 0 → Type 0
Sat T = Me (Option T) View

-- the seat has seen this history and noted these marks, and holds the turn
abbrev pub holding : View → List Entry → List ℕ → View
holding v history marks = record v { known = record v.known { seen = history; noted = marks }; holds = true }

-- the marks are noted
abbrev pub noting_all : View → List ℕ → View
noting_all v marks = record v { known = record v.known { noted = marks } }

-- the mark of one partition is noted
abbrev pub noting : View → ℕ → ℕ → View
noting v p mark = noting_all v (slice_set v.known.noted p mark)

-- the seat gave back a value with this history
abbrev pub given : View → List Entry → View
given v history = record v { known = record v.known { seen = history; own = v.known.own ++ added_to v.known.seen history }; holds = false }

-- the turn was free, and the seat has it with the slot: it shows what the seat knew
pub record Took {T : Type 0} (t : Tells T) (m n : Sat T) : Type 0 where
  pub value : T
  pub after : n ≡ (holding m.0 (t.entries value) (t.marks value), (0, Some value) ∷ [])
  pub origin : t.origin value ≡ m.0.known.origin
  pub seen : StartsWith (t.entries value) m.0.known.seen
  pub own : entries_of m.0.known.number (t.entries value) ≡ m.0.known.own
  pub noted : NoneFalls m.0.known.noted (t.marks value)

abbrev pub took : {T : Type 0} → Tells T → Step (Option T) → Sat T → ℕ → Sat T → Type 0
took t st m r n = (r ≡ 0 → Took t m n) × (r ≢ 0 → n ≡ m)

abbrev pub raised : {T : Type 0} → Step (Option T) → Sat T → ℕ → Sat T → Type 0
raised st m r n = (p : ℕ) → st.word ≡ p + 1 → n ≡ (noting m.0 p st.first, m.1)

abbrev pub gave : {T : Type 0} → Tells T → Step (Option T) → Sat T → ℕ → Sat T → Type 0
gave {T} t st m r n = (value : T) → m.1 ≡ (0, Some value) ∷ [] → n ≡ (given m.0 (t.entries value), [])

abbrev pub looked : {T : Type 0} → Step (Option T) → Sat T → ℕ → Sat T → Type 0
looked st m r n = (p : ℕ) → st.word ≡ p + 1 → (n ≡ (noting m.0 p r, m.1)) × (slice_index m.0.known.noted p ≤ r)

-- the yard has made one seat more
abbrev pub with_seat : View → View
with_seat v = record v { made = v.made + 1 }

-- the seat that the yard makes next: it has seen and added nothing
abbrev pub new_seat : View → View
new_seat v = record { known = record { number = v.made; origin = v.known.origin; seen = []; own = []; noted = v.known.noted }; in_use = true; holds = false; made = 0; returned = [] }

-- the yard keeps what a returned seat knew
abbrev pub with_returned : View → View → View
with_returned v w = record v { returned = w.known ∷ v.returned }

-- the view of a seat that returned
abbrev pub spent : View
spent = record { known = record { number = 0; origin = []; seen = []; own = []; noted = [] }; in_use = false; holds = false; made = 0; returned = [] }
