-- Which lists can go on, told by counts that single events keep up, without looking through letters.
use Rattle.std.specs.Prelude.{◌≡◌, ◌==◌, ℕ, ◌+◌, ◌/◌, Bool, false, cond, not, ◌&&◌, ◌||◌, nat_lt, nat_le, Option, Some, None, is_some, List, [], ◌∷◌, count_by, find}
use Rattle.std.specs.List.{range_with_len}
use Rattle.cycle_rounds.specs.Plan.{IsPlan, Plan, all_tasks, is_reading, round_tasks}
use Rattle.cycle_rounds.specs.Events.{Event, IsHistory, Letter, Machine, State, begin, is_for, may_take, put, replay, step}
use Rattle.cycle_rounds.specs.Events.Event.{take, give, deliver}

-- how many letters of a round were delivered to a list and not read, how many lists are past the barrier, and which lists can go on
pub record Counts : Type 0 where
  pub come : ℕ → ℕ → ℕ
  pub past : ℕ
  pub ready : ℕ → Bool

-- how many letters of a round are due to a list
abbrev pub due_to : {X : Type 0} → Plan X → ℕ → ℕ → ℕ
due_to p i r = count_by (λ x. p.to x == i) (p.due r)

-- whether the next task of a list can be worked on, by two counts
abbrev pub ready_by : {X : Type 0} → Plan X → ℕ → ℕ → ℕ → ℕ → Bool
ready_by p i g come past = cond (nat_lt g (round_tasks p)) (not (is_reading p g) || come == due_to p i (g / 3)) (past == p.lists)

-- whether it may be taken, by the counts
abbrev pub may_by : {X L P : Type 0} → Plan X → State X L P → Counts → ℕ → Bool
may_by p s c i = nat_lt i p.lists && (not (is_some (s.out i)) && (nat_lt (s.given i) (all_tasks p) && ready_by p i (s.given i) (c.come i (s.given i / 3)) c.past))

-- the counts as a cycle begins: each list is tested once
abbrev pub first_past : {X : Type 0} → Plan X → ℕ
first_past p = cond (nat_le (round_tasks p) 0) p.lists 0

abbrev pub first_counts : {X L P : Type 0} → Plan X → Machine X L P → Counts
first_counts p m = record { come = λ _ _. 0; past = first_past p; ready = may_by p (begin m) (record { come = λ _ _. 0; past = first_past p; ready = λ _. false }) }

-- a table with another value at one list and round
abbrev pub put_at : (ℕ → ℕ → ℕ) → ℕ → ℕ → ℕ → ℕ → ℕ → ℕ
put_at come i r n j q = cond (j == i && q == r) n (come j q)

-- the counts after a Give: a reading clears its round; a list that comes past the barrier is counted, and the last one wakes all
abbrev pub come_given : {X L P : Type 0} → Plan X → State X L P → Counts → ℕ → ℕ → ℕ → ℕ
come_given p s c i = cond (is_reading p (s.given i)) (put_at c.come i (s.given i / 3) 0) c.come

abbrev pub past_given : {X L P : Type 0} → Plan X → State X L P → Counts → ℕ → ℕ
past_given p s c i = c.past + cond (s.given i + 1 == round_tasks p) 1 0

abbrev pub is_last : {X L P : Type 0} → Plan X → State X L P → Counts → ℕ → Bool
is_last p s c i = s.given i + 1 == round_tasks p && past_given p s c i == p.lists

abbrev pub with_given : {X L P : Type 0} → Plan X → State X L P → Counts → ℕ → Counts
with_given p s c i = record c { come = come_given p s c i; past = past_given p s c i }

abbrev pub counts_given : {X L P : Type 0} → Plan X → State X L P → State X L P → Counts → ℕ → Counts
counts_given p s next c i = record (with_given p s c i) {
  ready = cond (is_last p s c i) (may_by p next (with_given p s c i)) (put c.ready i (may_by p next (with_given p s c i) i));
}

-- the counts after a letter was delivered: its list is tested
abbrev pub with_letter : {X P : Type 0} → Plan X → Counts → Letter X P → Counts
with_letter p c l = record c { come = put_at c.come (p.to l.of) l.round (c.come (p.to l.of) l.round + 1) }

abbrev pub counts_delivered : {X L P : Type 0} → Plan X → State X L P → Counts → Option (Letter X P) → Counts
counts_delivered p s c None = c
counts_delivered p s c (Some l) = record (with_letter p c l) { ready = put c.ready (p.to l.of) (may_by p s (with_letter p c l) (p.to l.of)) }

-- the counts after an event; no list but the event's own is tested, unless the last one comes past the barrier
abbrev pub counts_after : {X L P : Type 0} → Plan X → Machine X L P → State X L P → Counts → Event → Counts
counts_after p m s c (take seat i) = record c { ready = put c.ready i false }
counts_after p m s c (give seat i) = counts_given p s (step p m s (give seat i)) c i
counts_after p m s c (deliver seat k) = counts_delivered p s c (find (λ l. l.number == k) s.wire)

abbrev pub counts_along : {X L P : Type 0} → Plan X → Machine X L P → State X L P → Counts → List Event → Counts
counts_along p m s c [] = c
counts_along p m s c (e ∷ es) = counts_along p m (step p m s e) (counts_after p m s c e) es

-- counts that tell the truth of a state
pub record CountsAreOf {X L P : Type 0} (p : Plan X) (s : State X L P) (c : Counts) : Type 0 where
  pub come : (i r : ℕ) → c.come i r ≡ count_by (is_for p r i) s.mail
  pub past : c.past ≡ count_by (λ j. nat_le (round_tasks p) (s.given j)) (range_with_len 0 p.lists)
  pub ready : (i : ℕ) → c.ready i ≡ may_take p s i

-- the counts that are kept up by single events are those of the state, and a list is marked exactly where its next task may be taken
abbrev pub CountsTellTheTruth : (X L P : Type 0) → Type 0
CountsTellTheTruth X L P = (p : Plan X) (m : Machine X L P) (events : List Event) → IsPlan p → IsHistory p m events →
    CountsAreOf p (replay p m events) (counts_along p m (begin m) (first_counts p m) events)
