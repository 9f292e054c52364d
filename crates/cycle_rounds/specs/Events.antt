-- A cycle as a machine over events: what its states are, which events are legal in them, and what they change.
use Rattle.std.specs.Prelude.{◌≡◌, ◌==◌, ℕ, suc, ◌+◌, ◌/◌, Bool, true, false, cond, not, ◌&&◌, ◌||◌, nat_lt, nat_le, Option, Some, None, is_some, List, [], ◌∷◌, ◌++◌, length, filter, find}
use Rattle.std.specs.List.{list_all, list_any, range_with_len}
use Rattle.cycle_rounds.specs.Plan.{Plan, all_tasks, is_reading, is_sending, round_tasks}

-- a letter: its number in the cycle, its round, what it is about, and what it holds
pub record Letter (X P : Type 0) : Type 0 where
  pub number : ℕ
  pub round : ℕ
  pub of : X
  pub content : P

-- a state: how many tasks each list has given, the seat that has its next one, what it holds by itself (L), the letters that were
-- sent and not delivered, those that were delivered and not read, and how many were sent
pub record State (X L P : Type 0) : Type 0 where
  pub given : ℕ → ℕ
  pub out : ℕ → Option ℕ
  pub local : ℕ → L
  pub wire : List (Letter X P)
  pub mail : List (Letter X P)
  pub sent : ℕ

-- what a list holds as the cycle begins, once a task was taken, once the work on it was given (of a list, a task, and what the
-- letters of its round hold), and once a letter came to it; and what a letter of a round holds
pub record Machine (X L P : Type 0) : Type 0 where
  pub begin : ℕ → L
  pub lease : ℕ → ℕ → L → L
  pub work : ℕ → ℕ → (X → P) → L → L
  pub arrive : ℕ → X → P → L → L
  pub letter : ℕ → X → L → P
  pub blank : X → P

-- a seat takes the next task of a list, gives the work on it, or delivers the letter of a number
pub data Event : Type 0 where
  take : ℕ → ℕ → Event
  give : ℕ → ℕ → Event
  deliver : ℕ → ℕ → Event

-- a function with another value at one number
abbrev pub put : {A : Type 0} → (ℕ → A) → ℕ → A → ℕ → A
put f i v j = cond (j == i) v (f j)

-- what holds of each of a list
abbrev pub Each : {A : Type 0} → (A → Type 0) → List A → Type 0
Each P [] = Unit {0}
Each P (x ∷ xs) = P x × Each P xs

-- whether a letter is that of a round about x; and whether it is one of a round for a list
abbrev pub is_of : {X P : Type 0} → Plan X → ℕ → X → Letter X P → Bool
is_of p r x l = l.round == r && p.same x l.of

abbrev pub is_for : {X P : Type 0} → Plan X → ℕ → ℕ → Letter X P → Bool
is_for p r i l = l.round == r && p.to l.of == i

-- whether all letters of a round that are due to a list were delivered
abbrev pub has_come : {X P : Type 0} → Plan X → List (Letter X P) → ℕ → ℕ → Bool
has_come p mail r i = list_all (λ x. not (p.to x == i) || list_any (is_of p r x) mail) (p.due r)

-- whether all lists have given all that comes before the barrier
abbrev pub is_past : {X L P : Type 0} → Plan X → State X L P → Bool
is_past p s = list_all (λ j. nat_le (round_tasks p) (s.given j)) (range_with_len 0 p.lists)

-- whether the next task of a list can be worked on
abbrev pub is_ready : {X L P : Type 0} → Plan X → State X L P → ℕ → Bool
is_ready p s i = cond (nat_lt (s.given i) (round_tasks p)) (not (is_reading p (s.given i)) || has_come p s.mail (s.given i / 3) i) (is_past p s)

-- whether the next task of a list may be taken
abbrev pub may_take : {X L P : Type 0} → Plan X → State X L P → ℕ → Bool
may_take p s i = nat_lt i p.lists && (not (is_some (s.out i)) && (nat_lt (s.given i) (all_tasks p) && is_ready p s i))

abbrev pub is_with : ℕ → Option ℕ → Bool
is_with seat None = false
is_with seat (Some other) = seat == other

-- whether an event may come next
abbrev pub is_legal : {X L P : Type 0} → Plan X → State X L P → Event → Bool
is_legal p s (take seat i) = may_take p s i
is_legal p s (give seat i) = nat_lt i p.lists && is_with seat (s.out i)
is_legal p s (deliver seat k) = list_any (λ l. l.number == k) s.wire

-- letters of a round, numbered from k on
abbrev pub letters : {X P : Type 0} → ℕ → ℕ → (X → P) → List X → List (Letter X P)
letters k r content [] = []
letters k r content (x ∷ xs) = record { number = k; round = r; of = x; content = content x } ∷ letters (suc k) r content xs

-- the letters that the next task of a list puts on the wire
abbrev pub posted : {X L P : Type 0} → Plan X → Machine X L P → State X L P → ℕ → List (Letter X P)
posted p m s i = cond (is_sending p (s.given i)) (letters s.sent (s.given i / 3) (λ x. m.letter (s.given i / 3) x (s.local i)) (filter (λ x. p.from x == i) (p.due (s.given i / 3)))) []

-- the mail once the next task of a list has read what it reads
abbrev pub left : {X L P : Type 0} → Plan X → State X L P → ℕ → List (Letter X P)
left p s i = cond (is_reading p (s.given i)) (filter (λ l. not (is_for p (s.given i / 3) i l)) s.mail) s.mail

-- what the delivered letters of a round hold
abbrev pub content_of : {X P : Type 0} → P → Option (Letter X P) → P
content_of blank None = blank
content_of blank (Some l) = l.content

abbrev pub reads : {X L P : Type 0} → Plan X → Machine X L P → State X L P → ℕ → X → P
reads p m s r x = content_of (m.blank x) (find (is_of p r x) s.mail)

-- letters without the first of a number
abbrev pub without : {X P : Type 0} → ℕ → List (Letter X P) → List (Letter X P)
without k [] = []
without k (l ∷ ls) = cond (l.number == k) ls (l ∷ without k ls)

abbrev pub delivered : {X L P : Type 0} → Plan X → Machine X L P → State X L P → ℕ → Option (Letter X P) → State X L P
delivered p m s k None = s
delivered p m s k (Some l) = record s {
  local = put s.local (p.to l.of) (m.arrive l.round l.of l.content (s.local (p.to l.of)));
  wire = without k s.wire;
  mail = s.mail ++ l ∷ [];
}

-- the state after an event
abbrev pub step : {X L P : Type 0} → Plan X → Machine X L P → State X L P → Event → State X L P
step p m s (take seat i) = record s { out = put s.out i (Some seat); local = put s.local i (m.lease i (s.given i) (s.local i)) }
step p m s (give seat i) = record s {
  given = put s.given i (s.given i + 1);
  out = put s.out i None;
  local = put s.local i (m.work i (s.given i) (reads p m s (s.given i / 3)) (s.local i));
  wire = s.wire ++ posted p m s i;
  mail = left p s i;
  sent = s.sent + length (posted p m s i);
}
step p m s (deliver seat k) = delivered p m s k (find (λ l. l.number == k) s.wire)

-- the state in which a cycle begins
abbrev pub begin : {X L P : Type 0} → Machine X L P → State X L P
begin m = record { given = λ _. 0; out = λ _. None; local = m.begin; wire = []; mail = []; sent = 0 }

-- the state after a list of events; and whether each of them may come where it comes
abbrev pub after : {X L P : Type 0} → Plan X → Machine X L P → State X L P → List Event → State X L P
after p m s [] = s
after p m s (e ∷ es) = after p m (step p m s e) es

abbrev pub are_legal : {X L P : Type 0} → Plan X → Machine X L P → State X L P → List Event → Bool
are_legal p m s [] = true
are_legal p m s (e ∷ es) = is_legal p s e && are_legal p m (step p m s e) es

-- the state that a list of events leads to from the start; and whether that list is legal
abbrev pub replay : {X L P : Type 0} → Plan X → Machine X L P → List Event → State X L P
replay p m events = after p m (begin m) events

abbrev pub IsHistory : {X L P : Type 0} → Plan X → Machine X L P → List Event → Type 0
IsHistory p m events = are_legal p m (begin m) events ≡ true

-- whether all is done: each list has given all its tasks, and no letter is on the wire
abbrev pub is_complete : {X L P : Type 0} → Plan X → State X L P → Bool
is_complete p s = list_all (λ i. s.given i == all_tasks p) (range_with_len 0 p.lists) && length s.wire == 0
