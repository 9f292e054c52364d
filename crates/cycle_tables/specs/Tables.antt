-- The protocol of a cycle: lists of tasks that send each other letters in rounds, and what each event changes.
use Rattle.std.specs.Prelude.{◌≡◌, ◌==◌, ℕ, suc, ◌+◌, ◌*◌, ◌/◌, ◌%◌, ◌<◌, Bool, true, cond, not, ◌&&◌, ◌||◌, nat_lt, nat_le, Option, Some, None, IsSome, is_some, List, [], ◌∷◌, ◌++◌, length, count_by, map, replicate, slice_index_or, slice_set}
use Rattle.std.specs.List.{list_all, list_any}
use Rattle.cycle_tables.specs.declared.letter.Letter.{Letter}
use Rattle.cycle_tables.specs.declared.letter.Post.{Post}
use Rattle.cycle_tables.specs.declared.list_state.Due.{Due}
use Rattle.cycle_tables.specs.declared.list_state.ListState.{ListState}

-- so many rounds of three tasks each, and so many tasks of the tail; where each list stands; each letter that was sent,
-- by its number, while it is on the wire; and the letters that were delivered and not read, by list and round
pub record Protocol (T : Type 0) : Type 0 where
  pub rounds : ℕ
  pub tail : ℕ
  pub lists : List ListState
  pub posts : List (Option (Letter T))
  pub mail : List (List (List (Letter T)))

-- a list that has given nothing, and what stands in for one that is not there
abbrev pub begun : Due → ListState
begun due = record { due = due; given = 0; out = None }

abbrev pub no_list : ListState
no_list = begun (record { ghosts = 0; fluxes = 0 })

-- how many tasks come before the barrier, and how many there are
abbrev pub round_tasks : ℕ → ℕ
round_tasks rounds = 3 * rounds

abbrev pub all_tasks : ℕ → ℕ → ℕ
all_tasks rounds tail = round_tasks rounds + tail

-- whether the task after so many is to send, or to read, the letters of a round
abbrev pub is_sending : ℕ → ℕ → Bool
is_sending rounds given = nat_lt given (round_tasks rounds) && given % 3 == 0

abbrev pub is_reading : ℕ → ℕ → Bool
is_reading rounds given = nat_lt given (round_tasks rounds) && given % 3 == 1

-- how many letters of a round are due to a list: even rounds carry ghosts, odd ones flux sums
abbrev pub due_in : Due → ℕ → ℕ
due_in due r = cond (r % 2 == 0) due.ghosts due.fluxes

-- whether the next task of a list may be taken: none of it is out, there is one more, a reading has as many letters as
-- are due, and the tail waits until all lists are past the barrier
abbrev pub can_start : ℕ → ℕ → Bool → ListState → ℕ → Bool
can_start rounds tail past l come =
    not (is_some l.out) && (nat_lt l.given (all_tasks rounds tail) && cond (nat_lt l.given (round_tasks rounds))
    (not (is_reading rounds l.given) || come == due_in l.due (l.given / 3)) past)

module _ {T : Type 0} where
  -- where a list stands
  abbrev pub state_of : Protocol T → ℕ → ListState
  state_of v i = slice_index_or v.lists i no_list

  -- the letter of a number, where it is on the wire
  abbrev pub post_of : Protocol T → ℕ → Option (Letter T)
  post_of v k = slice_index_or v.posts k None

  -- the letters of a round that were delivered to a list and not read; and the mail with other ones in their place
  abbrev pub letters_at : List (List (List (Letter T))) → ℕ → ℕ → List (Letter T)
  letters_at mail i r = slice_index_or (slice_index_or mail i []) r []

  abbrev pub mail_of : Protocol T → ℕ → ℕ → List (Letter T)
  mail_of v i r = letters_at v.mail i r

  abbrev pub with_mail : List (List (List (Letter T))) → ℕ → ℕ → List (Letter T)
      → List (List (List (Letter T)))
  with_mail mail i r letters = slice_set mail i (slice_set (slice_index_or mail i []) r letters)

  -- whether all lists have given all that comes before the barrier
  abbrev pub is_past : Protocol T → Bool
  is_past v = list_all (λ (l : ListState). nat_le (round_tasks v.rounds) l.given) v.lists

  -- whether the next task of a list may be taken
  abbrev pub may_take : Protocol T → ℕ → Bool
  may_take v i =
      nat_lt i (length v.lists)
      && can_start v.rounds v.tail (is_past v) (state_of v i) (length (mail_of v i ((state_of v i).given / 3)))

  -- whether all is done: each list has given all its tasks, and no letter is on the wire
  abbrev pub is_done : Protocol T → Bool
  is_done v =
      list_all (λ (l : ListState). l.given == all_tasks v.rounds v.tail) v.lists && not (list_any is_some v.posts)

  -- how many tasks are out
  abbrev pub leases : Protocol T → ℕ
  leases v = count_by (λ (l : ListState). is_some l.out) v.lists

  -- the protocol as a cycle begins, with what is due to each list
  abbrev pub at_start : ℕ → ℕ → List Due → Protocol T
  at_start rounds tail due = record {
    rounds = rounds;
    tail = tail;
    lists = map begun due;
    posts = [];
    mail = map (λ _. replicate rounds []) due;
  }

  -- whether the next task of a list reads, and the letters that it reads
  abbrev pub reads : Protocol T → ℕ → Bool
  reads v i = is_reading v.rounds (state_of v i).given

  abbrev pub letters_of : Protocol T → ℕ → List (Letter T)
  letters_of v i = cond (reads v i) (mail_of v i ((state_of v i).given / 3)) []

  -- no letter of the round that the next task of a list reads is still to come to it
  abbrev pub NoneComing : Protocol T → ℕ → Type 0
  NoneComing v i = (k : ℕ) (l : Letter T) → reads v i ≡ true → post_of v k ≡ Some l → l.to ≡ i
      → l.round ≡ (state_of v i).given / 3 → ⊥

  -- once a seat took the next task of a list: the letters that it reads went with it
  abbrev pub taken : Protocol T → ℕ → ℕ → Protocol T
  taken v i seat = record v {
    lists = slice_set v.lists i (record (state_of v i) { out = Some seat });
    mail = cond (reads v i) (with_mail v.mail i ((state_of v i).given / 3) []) v.mail;
  }

  -- letters of a round, numbered from k on
  abbrev pub numbered : ℕ → ℕ → List (Post T) → List (Option (Letter T))
  numbered k r [] = []
  numbered k r (q ∷ qs) =
      Some (record { number = k; round = r; to = q.to; content = q.content }) ∷ numbered (suc k) r qs

  -- once the task of a list that was out is given, with the letters that it sends
  abbrev pub given : Protocol T → ℕ → List (Post T) → Protocol T
  given v i letters = record v {
    lists = slice_set v.lists i (record (state_of v i) { given = (state_of v i).given + 1; out = None });
    posts = v.posts ++ numbered (length v.posts) ((state_of v i).given / 3) letters;
  }

  -- a letter whose list got fewer of its round than are due
  abbrev pub HasPlace : Protocol T → Letter T → Type 0
  HasPlace v l = length (mail_of v l.to l.round) < due_in (state_of v l.to).due l.round

  -- once the letter of a number was delivered
  abbrev pub with_letter : Protocol T → Letter T → ℕ → Protocol T
  with_letter v l k = record v {
    posts = slice_set v.posts k None;
    mail = with_mail v.mail l.to l.round (mail_of v l.to l.round ++ l ∷ []);
  }

  abbrev pub delivered_by : Protocol T → ℕ → Option (Letter T) → Protocol T
  delivered_by v k None = v
  delivered_by v k (Some l) = with_letter v l k

  abbrev pub delivered : Protocol T → ℕ → Protocol T
  delivered v k = delivered_by v k (post_of v k)

-- the least number of a letter on the wire, or nothing where there is none
abbrev pub IsLeast : {A : Type 0} → List (Option A) → Option ℕ → Type 0
IsLeast posts None = (k : ℕ) → slice_index_or posts k None ≡ None
IsLeast posts (Some k) =
    IsSome (slice_index_or posts k None) × ((j : ℕ) → j < k → slice_index_or posts j None ≡ None)

-- a letter that is to be posted goes to one of so many lists
abbrev pub GoesTo : {T : Type 0} → ℕ → Post T → Type 0
GoesTo lists q = q.to < lists
