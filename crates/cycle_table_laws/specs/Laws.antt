-- Each event changes the tables as it changes the machine, in every state that a legal list of events leads to.
use Rattle.std.specs.Prelude.{◌≡◌, ◌==◌, ℕ, ◌+◌, ◌/◌, ◌<◌, ◌≤◌, true, false, cond, Some, None, is_some, List, [], length, filter, find, All, slice_index_or}
use Rattle.std.specs.List.{AllZip, list_any}
use Rattle.cycle_rounds.specs.Plan.{IsPlan, Plan, is_reading}
use Rattle.cycle_rounds.specs.Events.{Event, IsHistory, Letter, Machine, State, begin, content_of, is_complete, is_for, is_legal, is_of, may_take, posted, reads, replay, step}
use Rattle.cycle_rounds.specs.Events.Event.{take, give, deliver}
use Rattle.cycle_rounds.specs.Protocol.{all_due, is_own}
use Rattle.cycle_rounds.specs.Readiness.{due_to}
use Rattle.cycle_tables.specs.declared.letter.Letter.{Letter as Posted}
use Rattle.cycle_tables.specs.declared.letter.Post.{Post}
use Rattle.cycle_tables.specs.declared.list_state.Due.{Due}
use Rattle.cycle_tables.specs.Tables as tables
use Rattle.cycle_tables.specs.Tables.{GoesTo, HasPlace, NoneComing, Protocol, at_start, delivered, due_in, given, is_done, is_sending, leases, letters_of, post_of, state_of, taken}
use Rattle.cycle_table_laws.specs.Shows.{Says, Shows, StandsFor, WillStandFor}

-- what is due to each list by a plan
pub record IsDueOf {X : Type 0} (p : Plan X) (due : List Due) : Type 0 where
  pub lists : length due ≡ p.lists
  pub each : (i r : ℕ) → i < p.lists → r < p.rounds
      → due_in (slice_index_or due i (record { ghosts = 0; fluxes = 0 })) r ≡ due_to p i r

-- the tables of a cycle that begins show its first state
abbrev pub BeginIsShown : (X L P T : Type 0) → Type 0
BeginIsShown X L P T = (p : Plan X) (m : Machine X L P) (of : T → X) (content : T → P) (due : List Due) → IsDueOf p due
    → Shows p (Says of content) (begin m) (at_start p.rounds p.tail due)

-- what holds in each state that a legal list of events leads to, of tables that show it, whatever a letter carries
abbrev pub InEachState : (X L P T : Type 0)
    → (Plan X → Machine X L P → (T → X → P → Type 0) → State X L P → Protocol T → Type 0) → Type 0
InEachState X L P T Q =
    (p : Plan X) (m : Machine X L P) (events : List Event) (of : T → X) (content : T → P) (v : Protocol T)
    → IsPlan p → IsHistory p m events → Shows p (Says of content) (replay p m events) v
    → Q p m (Says of content) (replay p m events) v

-- the tables tell which tasks may be taken, whether all is done, and which letters are on the wire; and where not all is
-- done, but no task may be taken and no letter is on the wire, some task is out
pub record TellsReadiness {X L P T : Type 0} (p : Plan X) (s : State X L P) (v : Protocol T) : Type 0 where
  pub ready : (i : ℕ) → tables.may_take v i ≡ may_take p s i
  pub done : is_done v ≡ is_complete p s
  pub wire : (k : ℕ) → list_any (λ (l : Letter X P). l.number == k) s.wire ≡ is_some (post_of v k)
  pub leased : is_done v ≡ false → ((i : ℕ) → tables.may_take v i ≡ false) → ((k : ℕ) → post_of v k ≡ None)
      → 1 ≤ leases v

abbrev pub ReadinessIsShown : (X L P T : Type 0) → Type 0
ReadinessIsShown X L P T = InEachState X L P T (λ p m R s v. TellsReadiness p s v)

-- the letters that the next task of a list reads
abbrev pub to_read : {X L P : Type 0} → Plan X → State X L P → ℕ → List (Letter X P)
to_read p s i = cond (is_reading p (s.given i)) (filter (is_for p (s.given i / 3) i) s.mail) []

-- a task is taken: no letter for it is still to come, and it is handed those that it reads
pub record TakesAs {X L P T : Type 0} (p : Plan X) (m : Machine X L P) (R : T → X → P → Type 0) (s : State X L P)
    (v : Protocol T) (seat i : ℕ) : Type 0 where
  pub none_coming : NoneComing v i
  pub letters : AllZip (StandsFor p R) (letters_of v i) (to_read p s i)
  pub shows : Shows p R (step p m s (take seat i)) (taken v i seat)

abbrev pub TakeIsShown : (X L P T : Type 0) → Type 0
TakeIsShown X L P T = InEachState X L P T (λ p m R s v.
    (seat i : ℕ) → may_take p s i ≡ true → TakesAs p m R s v seat i)

-- the work on a task is given: the letters go to lists that there are, only a sending has any, and there are no more of
-- them in all than are due
pub record GivesAs {X L P T : Type 0} (p : Plan X) (m : Machine X L P) (R : T → X → P → Type 0) (s : State X L P)
    (v : Protocol T) (seat i : ℕ) (letters : List (Post T)) : Type 0 where
  pub list : i < length v.lists
  pub out : is_some (state_of v i).out ≡ true
  pub sends : is_sending v.rounds (state_of v i).given ≡ false → letters ≡ []
  pub receivers : All (GoesTo (length v.lists)) letters
  pub numbers : length v.posts + length letters ≤ all_due p
  pub shows : Shows p R (step p m s (give seat i)) (given v i letters)

abbrev pub GiveIsShown : (X L P T : Type 0) → Type 0
GiveIsShown X L P T = InEachState X L P T (λ p m R s v.
    (seat i : ℕ) (letters : List (Post T)) → is_legal p s (give seat i) ≡ true
    → AllZip (WillStandFor p R) letters (posted p m s i) → GivesAs p m R s v seat i letters)

-- a letter is delivered: its mailbox is not full
pub record DeliversAs {X L P T : Type 0} (p : Plan X) (m : Machine X L P) (R : T → X → P → Type 0) (s : State X L P)
    (v : Protocol T) (seat k : ℕ) (l : Posted T) : Type 0 where
  pub place : HasPlace v l
  pub shows : Shows p R (step p m s (deliver seat k)) (delivered v k)

abbrev pub DeliverIsShown : (X L P T : Type 0) → Type 0
DeliverIsShown X L P T = InEachState X L P T (λ p m R s v.
    (seat k : ℕ) (l : Posted T) → post_of v k ≡ Some l → DeliversAs p m R s v seat k l)

-- while a task is out, no event but its own give changes the letters that it reads
abbrev pub LeaseKeepsItsLetters : (X L P : Type 0) → Type 0
LeaseKeepsItsLetters X L P = (p : Plan X) (m : Machine X L P) (events : List Event) (e : Event) (i : ℕ)
    → IsPlan p → IsHistory p m events → is_legal p (replay p m events) e ≡ true → is_own i e ≡ false
    → is_some ((replay p m events).out i) ≡ true
    → to_read p (step p m (replay p m events) e) i ≡ to_read p (replay p m events) i

-- what the machine reads at the give of a reading is what these letters hold
abbrev pub LeaseHasItsLetters : (X L P : Type 0) → Type 0
LeaseHasItsLetters X L P = (p : Plan X) (m : Machine X L P) (s : State X L P) (i : ℕ) (x : X)
    → IsPlan p → is_reading p (s.given i) ≡ true → p.to x ≡ i
    → reads p m s (s.given i / 3) x ≡ content_of (m.blank x) (find (is_of p (s.given i / 3) x) (to_read p s i))
