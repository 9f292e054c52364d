-- What every legal list of events keeps, whatever the lists hold.
use Rattle.std.specs.Prelude.{◌≡◌, ◌==◌, ℕ, ◌+◌, ◌*◌, ◌<◌, ◌≤◌, Bool, true, false, cond, ◌&&◌, ◌⊎◌, nat_lt, is_some, List, length, count_by, sum_by}
use Rattle.std.specs.List.{list_any, range_with_len}
use Rattle.cycle_rounds.specs.Plan.{IsPlan, Plan, all_tasks, is_due, round_tasks}
use Rattle.cycle_rounds.specs.Events.{Event, IsHistory, Machine, State, is_complete, is_legal, is_of, may_take, replay, step}
use Rattle.cycle_rounds.specs.Events.Event.{take, give, deliver}

-- how many letters of a round about x are on the wire or delivered and not read
abbrev pub copies : {X L P : Type 0} → Plan X → State X L P → ℕ → X → ℕ
copies p s r x = count_by (is_of p r x) s.wire + count_by (is_of p r x) s.mail

-- whether a letter was sent and not read: its sender has given the sending of its round, and its reader has not given the reading
abbrev pub is_under_way : {X L P : Type 0} → Plan X → State X L P → ℕ → X → Bool
is_under_way p s r x = nat_lt (3 * r) (s.given (p.from x)) && nat_lt (s.given (p.to x)) (3 * r + 2)

-- each due letter is in one place, or gone; and no other letter is anywhere
abbrev pub EachLetterIsInOnePlace : (X L P : Type 0) → Type 0
EachLetterIsInOnePlace X L P = (p : Plan X) (m : Machine X L P) (events : List Event) → IsPlan p → IsHistory p m events → (r : ℕ) (x : X) →
    copies p (replay p m events) r x ≡ cond (nat_lt r p.rounds && (is_due p r x && is_under_way p (replay p m events) r x)) 1 0

-- each letter on the wire or delivered has its own number, below the number of those that were sent
abbrev pub EachLetterHasItsNumber : (X L P : Type 0) → Type 0
EachLetterHasItsNumber X L P = (p : Plan X) (m : Machine X L P) (events : List Event) → IsPlan p → IsHistory p m events → (k : ℕ) →
    count_by (λ l. l.number == k) (replay p m events).wire + count_by (λ l. l.number == k) (replay p m events).mail ≤ cond (nat_lt k (replay p m events).sent) 1 0

-- what was done before what
pub record IsInOrder {X L P : Type 0} (p : Plan X) (s : State X L P) : Type 0 where
  -- a given reading of a round: the letters that were due to it were sent
  pub sent_first : (r : ℕ) (x : X) → r < p.rounds → is_due p r x ≡ true → 3 * r + 2 ≤ s.given (p.to x) → 3 * r < s.given (p.from x)
  -- a reading that is out: the letters that are due to it are delivered
  pub come_first : (r : ℕ) (x : X) → r < p.rounds → is_due p r x ≡ true → s.given (p.to x) ≡ 3 * r + 1 → is_some (s.out (p.to x)) ≡ true → list_any (is_of p r x) s.mail ≡ true
  -- a task of the tail that is out or given: all lists have given all that comes before the barrier
  pub all_past : (i j : ℕ) → round_tasks p < s.given i + cond (is_some (s.out i)) 1 0 → j < p.lists → round_tasks p ≤ s.given j
  -- no list gives more than it has, nor takes what it has not
  pub within : (i : ℕ) → s.given i + cond (is_some (s.out i)) 1 0 ≤ all_tasks p

abbrev pub EventsAreInOrder : (X L P : Type 0) → Type 0
EventsAreInOrder X L P = (p : Plan X) (m : Machine X L P) (events : List Event) → IsPlan p → IsHistory p m events → IsInOrder p (replay p m events)

-- whether an event is one of that list's own, to take or to give
abbrev pub is_own : ℕ → Event → Bool
is_own i (take seat j) = i == j
is_own i (give seat j) = i == j
is_own i (deliver seat k) = false

-- while a task is out, no event but its own give changes the count of its list's tasks or the seat that has it, or takes one of its letters away
pub record StaysLeased {X L P : Type 0} (p : Plan X) (i : ℕ) (s t : State X L P) : Type 0 where
  pub given : t.given i ≡ s.given i
  pub out : t.out i ≡ s.out i
  pub letters : (r : ℕ) (x : X) → p.to x ≡ i → list_any (is_of p r x) s.mail ≡ true → list_any (is_of p r x) t.mail ≡ true

abbrev pub LeasesStay : (X L P : Type 0) → Type 0
LeasesStay X L P = (p : Plan X) (m : Machine X L P) (s : State X L P) (e : Event) (i : ℕ) → IsPlan p → is_legal p s e ≡ true → is_own i e ≡ false →
    StaysLeased p i s (step p m s e)

-- no other list's events change what a list holds: only what it takes and gives itself, and letters that come to it
abbrev pub OthersLeaveItAlone : (X L P : Type 0) → Type 0
OthersLeaveItAlone X L P = (p : Plan X) (m : Machine X L P) (s : State X L P) (seat i j : ℕ) → (i ≡ j → ⊥) →
    ((step p m s (take seat j)).local i ≡ s.local i) × ((step p m s (give seat j)).local i ≡ s.local i)

-- how many letters are due in all rounds
abbrev pub all_due : {X : Type 0} → Plan X → ℕ
all_due p = sum_by (λ r. length (p.due r)) (range_with_len 0 p.rounds)

-- a complete list has two events for each task and one for each letter, and no legal list is longer
abbrev pub EventsAreCounted : (X L P : Type 0) → Type 0
EventsAreCounted X L P = (p : Plan X) (m : Machine X L P) (events : List Event) → IsPlan p → IsHistory p m events →
    (length events ≤ 2 * (p.lists * all_tasks p) + all_due p) × (is_complete p (replay p m events) ≡ true → length events ≡ 2 * (p.lists * all_tasks p) + all_due p)

-- in a state that is not complete some task may be taken, a task is out, or a letter is on the wire
abbrev pub CanGoOn : {X L P : Type 0} → Plan X → State X L P → Type 0
CanGoOn p s = ((i : ℕ) × (may_take p s i ≡ true)) ⊎ (((i : ℕ) × (i < p.lists) × (is_some (s.out i) ≡ true)) ⊎ (1 ≤ length s.wire))

abbrev pub NeverStuck : (X L P : Type 0) → Type 0
NeverStuck X L P = (p : Plan X) (m : Machine X L P) (events : List Event) → IsPlan p → IsHistory p m events →
    is_complete p (replay p m events) ≡ false → CanGoOn p (replay p m events)
