-- For the code: what its private tables keep.
use Rattle.std.specs.Prelude.{◌≡◌, ℕ, ◌+◌, ◌/◌, ◌<◌, ◌≤◌, ◌^◌, Bool, true, false, cond, nat_lt, nat_le, Option, Some, None, is_some, List, [], ◌∷◌, ◌++◌, length, count_by, map, All, slice_index_or, slice_set}
use Rattle.slab.specs.Slab.{Slab, get}
use Rattle.cycle_tables.specs.declared.letter.Letter.{Letter}
use Rattle.cycle_tables.specs.declared.letter.Post.{Post}
use Rattle.cycle_tables.specs.declared.list_state.ListState.{ListState}
use Rattle.cycle_tables.specs.Tables.{Protocol, all_tasks, can_start, due_in, is_reading, may_take, no_list, numbered, round_tasks, state_of}
use Rattle.cycle_tables.specs.Letters.{Box}

-- the key under which a letter is stored, while it is
abbrev pub key_of : List (Option ℕ) → ℕ → Option ℕ
key_of keys k = slice_index_or keys k None

-- the value at a key, where there is one
abbrev pub at_key : {T : Type 0} → Slab T → Option ℕ → Option T
at_key slab None = None
at_key slab (Some key) = get slab key

-- each key holds a letter, no two numbers have one key, and `first` is the least number with a key, or how many there
-- are
pub record IsWire {T : Type 0} (slab : Slab T) (keys : List (Option ℕ)) (first : ℕ) : Type 0 where
  pub held : (k key : ℕ) → key_of keys k ≡ Some key → is_some (get slab key) ≡ true
  pub apart : (j k key : ℕ) → key_of keys j ≡ Some key → key_of keys k ≡ Some key → j ≡ k
  pub gone : (k : ℕ) → k < first → key_of keys k ≡ None
  pub within : first ≤ length keys
  pub least : first < length keys → is_some (key_of keys first) ≡ true

-- each number in the set has its place in the stack, and each place of the stack a number of the set
pub record IsReadySet (places : List (Option ℕ)) (stack : List ℕ) (room : ℕ) : Type 0 where
  pub stacked : (i k : ℕ) → key_of places i ≡ Some k → (k < length stack) × (slice_index_or stack k 0 ≡ i)
  pub placed : (k : ℕ) → k < length stack → key_of places (slice_index_or stack k 0) ≡ Some k
  pub counted : length stack ≡ count_by is_some places
  pub bounded : length places ≤ room

-- the first number from one on that has a key, or how many numbers there are
pub record IsFirstFrom (keys : List (Option ℕ)) (first next : ℕ) : Type 0 where
  pub from : first ≤ next
  pub within : next ≤ length keys
  pub none : (k : ℕ) → first ≤ k → k < next → key_of keys k ≡ None
  pub some : next < length keys → is_some (key_of keys next) ≡ true

-- the letter of a number, while it is on the wire
abbrev pub posted : {A : Type 0} → List (Option A) → ℕ → Option A
posted posts k = slice_index_or posts k None

-- a mailbox with no letter and no room, and the one of a round
abbrev pub empty_box : {T : Type 0} → Box T
empty_box = record { letters = []; room = 0 }

abbrev pub box_in : {T : Type 0} → List (Box T) → ℕ → Box T
box_in boxes r = slice_index_or boxes r empty_box

-- there is room for one letter more
abbrev pub HasRoomLeft : {T : Type 0} → Box T → Type 0
HasRoomLeft box = length box.letters < box.room

-- a letter was put into the mailbox of its round
abbrev pub with_letter_in : {T : Type 0} → List (Box T) → Letter T → List (Box T)
with_letter_in boxes l =
    slice_set boxes l.round (record (box_in boxes l.round) { letters = (box_in boxes l.round).letters ++ l ∷ [] })

-- the letters of mailboxes
abbrev pub letters_in : {T : Type 0} → List (Box T) → List (List (Letter T))
letters_in boxes = map (λ b. b.letters) boxes

-- mailboxes with the same letters, and no less room; of one list, and of all
pub record MakesRoom {T : Type 0} (old new : List (Box T)) : Type 0 where
  pub letters : letters_in new ≡ letters_in old
  pub room : (r : ℕ) → (box_in old r).room ≤ (box_in new r).room

abbrev pub box_of : {T : Type 0} → List (List (Box T)) → ℕ → ℕ → Box T
box_of mail i r = box_in (slice_index_or mail i []) r

abbrev pub HasRounds : {T : Type 0} → ℕ → List (Box T) → Type 0
HasRounds rounds boxes = length boxes ≡ rounds

pub record MakeRoom {T : Type 0} (old new : List (List (Box T))) : Type 0 where
  pub letters : map letters_in new ≡ map letters_in old
  pub room : (i r : ℕ) → (box_of old i r).room ≤ (box_of new i r).room

-- the mailbox of a letter of a round has room for all that are due
abbrev pub IsRoomFor : {T : Type 0} → List ListState → List (List (Box T)) → ℕ → Post T → Type 0
IsRoomFor lists mail r q = due_in (slice_index_or lists q.to no_list).due r ≤ (box_of mail q.to r).room

-- a letter was put into its mailbox
abbrev pub put_letter : {T : Type 0} → List (List (Box T)) → Letter T → List (List (Box T))
put_letter mail l = slice_set mail l.to (with_letter_in (slice_index_or mail l.to []) l)

-- what the task after so many reads, and the mail without it
abbrev pub read_by : {T : Type 0} → ℕ → List (List (Box T)) → ℕ → ℕ → List (Letter T)
read_by rounds mail i given = cond (is_reading rounds given) (box_of mail i (given / 3)).letters []

abbrev pub without_read : {T : Type 0} → ℕ → List (List (Box T)) → ℕ → ℕ → List (List (Box T))
without_read rounds mail i given = cond (is_reading rounds given)
    (slice_set mail i (slice_set (slice_index_or mail i []) (given / 3) empty_box)) mail

-- how many letters came, of the round of the task after so many; and whether that task may be taken
abbrev pub come_in : {T : Type 0} → List (Box T) → ℕ → ℕ
come_in boxes given = length (box_in boxes (given / 3)).letters

abbrev pub may_start : {T : Type 0} → ℕ → ℕ → Bool → List ListState → List (List (Box T)) → ℕ → Bool
may_start rounds tail past lists mail i =
    can_start rounds tail past (slice_index_or lists i no_list)
    (come_in (slice_index_or mail i []) (slice_index_or lists i no_list).given)

-- each list is marked exactly where its next task may be taken
abbrev pub AreMarked : {T : Type 0} → ℕ → ℕ → Bool → List ListState → List (List (Box T)) → List Bool → Type 0
AreMarked rounds tail past lists mail ready =
    (i : ℕ) → i < length lists → slice_index_or ready i false ≡ may_start rounds tail past lists mail i

-- once letters were put on the wire, and once a task was given
abbrev pub posted_by : {T : Type 0} → Protocol T → ℕ → List (Post T) → Protocol T
posted_by v i letters = record v { posts = v.posts ++ numbered (length v.posts) ((state_of v i).given / 3) letters }

abbrev pub advanced : {T : Type 0} → Protocol T → ℕ → Protocol T
advanced v i = record v {
  lists = slice_set v.lists i (record (state_of v i) { given = (state_of v i).given + 1; out = None });
}

-- a letter on the wire goes to a list and a round that there are, and its mailbox has room for all that are due
pub record IsExpected {T : Type 0} (rounds : ℕ) (lists : List ListState) (mail : List (List (Box T))) (l : Letter T)
    : Type 0 where
  pub list : l.to < length lists
  pub round : l.round < rounds
  pub room : due_in (slice_index_or lists l.to no_list).due l.round ≤ (box_of mail l.to l.round).room

abbrev pub protocol_of : {T : Type 0} → ℕ → ℕ → List ListState → List (Option (Letter T)) → List (List (Box T))
    → Protocol T
protocol_of rounds tail lists posts mail =
    record { rounds = rounds; tail = tail; lists = lists; posts = posts; mail = map letters_in mail }

-- a list gives no more than it has, and takes no more
abbrev pub IsWithin : ℕ → ListState → Type 0
IsWithin all l = l.given + cond (is_some l.out) 1 0 ≤ all

-- the tables: none is too long; each letter on the wire is expected; the marks are those of the lists that may go on;
-- and the counts of lists past the barrier, of lists with tasks left and of tasks that are out are right
pub record IsTables {T : Type 0} (rounds tail : ℕ) (lists : List ListState) (posts : List (Option (Letter T)))
    (mail : List (List (Box T))) (ready : List Bool) (past left leased : ℕ) : Type 0 where
  pub tasks : all_tasks rounds tail < 2 ^ 32
  pub some_lists : length lists < 2 ^ 32
  pub some_posts : length posts ≤ 2 ^ 32
  pub within : All (IsWithin (all_tasks rounds tail)) lists
  pub boxes : length mail ≡ length lists
  pub each_round : All (HasRounds rounds) mail
  pub expected : (k : ℕ) (l : Letter T) → slice_index_or posts k None ≡ Some l → IsExpected rounds lists mail l
  pub flags : length ready ≡ length lists
  pub ready_is : (i : ℕ) → slice_index_or ready i false ≡ may_take (protocol_of rounds tail lists posts mail) i
  pub past_is : past ≡ count_by (λ (l : ListState). nat_le (round_tasks rounds) l.given) lists
  pub left_is : left ≡ count_by (λ (l : ListState). nat_lt l.given (all_tasks rounds tail)) lists
  pub leased_is : leased ≡ count_by (λ (l : ListState). is_some l.out) lists
