-- The tables of a cycle show a state of the machine of `cycle_rounds`: counts, leases, and each letter where it is.
use Rattle.std.specs.Prelude.{◌≡◌, ◌==◌, ℕ, ◌/◌, ◌<◌, Bool, cond, ◌&&◌, Option, Some, None, is_some, List, [], ◌∷◌, length, filter, slice_index_or}
use Rattle.std.specs.List.{AllZip}
use Rattle.cycle_rounds.specs.Plan.{Plan, is_reading}
use Rattle.cycle_rounds.specs.Events.{Letter, State, is_for}
use Rattle.cycle_rounds.specs.Readiness.{due_to}
use Rattle.cycle_tables.specs.declared.letter.Letter.{Letter as Posted}
use Rattle.cycle_tables.specs.declared.letter.Post.{Post}
use Rattle.cycle_tables.specs.Tables.{Protocol, due_in, mail_of, post_of, state_of}

-- a letter of the tables stands for one of the machine: R says that it carries what the letter is about and holds
pub record StandsFor {X P T : Type 0} (p : Plan X) (R : T → X → P → Type 0) (l : Posted T) (m : Letter X P)
    : Type 0 where
  pub number : l.number ≡ m.number
  pub round : l.round ≡ m.round
  pub to : l.to ≡ p.to m.of
  pub content : R l.content m.of m.content

-- a letter that is to be posted likewise; it has no number yet
pub record WillStandFor {X P T : Type 0} (p : Plan X) (R : T → X → P → Type 0) (q : Post T) (m : Letter X P)
    : Type 0 where
  pub to : q.to ≡ p.to m.of
  pub content : R q.content m.of m.content

-- the letters that are on the wire, by rising numbers
abbrev pub on_wire : {T : Type 0} → List (Option (Posted T)) → List (Posted T)
on_wire [] = []
on_wire (None ∷ posts) = on_wire posts
on_wire (Some l ∷ posts) = l ∷ on_wire posts

-- tables for the plan of a cycle: its rounds, its tail, its lists with a mailbox for each round, and what
-- is due to each of them
pub record IsFor {X T : Type 0} (p : Plan X) (v : Protocol T) : Type 0 where
  pub rounds : v.rounds ≡ p.rounds
  pub tail : v.tail ≡ p.tail
  pub lists : length v.lists ≡ p.lists
  pub boxes : length v.mail ≡ p.lists
  pub each_round : (i : ℕ) → i < p.lists → length (slice_index_or v.mail i []) ≡ p.rounds
  pub due : (i r : ℕ) → i < p.lists → r < p.rounds → due_in (state_of v i).due r ≡ due_to p i r

-- whether the letters of a round went to the task of a list that is out
abbrev pub went_out : {X L P : Type 0} → Plan X → State X L P → ℕ → ℕ → Bool
went_out p s i r = is_some (s.out i) && (is_reading p (s.given i) && s.given i / 3 == r)

-- the letters of a round that were delivered to a list, in this order, and are in its mailbox
abbrev pub in_mailbox : {X L P : Type 0} → Plan X → State X L P → ℕ → ℕ → List (Letter X P)
in_mailbox p s i r = cond (went_out p s i r) [] (filter (is_for p r i) s.mail)

-- the tables show a state
pub record Shows {X L P T : Type 0} (p : Plan X) (R : T → X → P → Type 0) (s : State X L P) (v : Protocol T)
    : Type 0 where
  pub plan : IsFor p v
  pub given : (i : ℕ) → i < p.lists → (state_of v i).given ≡ s.given i
  pub out : (i : ℕ) → i < p.lists → (state_of v i).out ≡ s.out i
  pub sent : length v.posts ≡ s.sent
  -- the letters on the wire, each under its number
  pub wire : AllZip (StandsFor p R) (on_wire v.posts) s.wire
  pub numbers : (k : ℕ) (l : Posted T) → post_of v k ≡ Some l → l.number ≡ k
  -- the mailboxes; a letter that was read went with the task
  pub mail : (i r : ℕ) → i < p.lists → r < p.rounds → AllZip (StandsFor p R) (mail_of v i r) (in_mailbox p s i r)

-- what a letter carries tells what it is about and what it holds
abbrev pub Says : {X P T : Type 0} → (T → X) → (T → P) → T → X → P → Type 0
Says of content t x c = (of t ≡ x) × (content t ≡ c)
