-- What is to be done in a cycle: lists of tasks, rounds of letters between them, and a tail of tasks behind one barrier.
use Rattle.std.specs.Prelude.{◌≡◌, ◌==◌, ℕ, ◌+◌, ◌*◌, ◌%◌, ◌<◌, ◌≤◌, Bool, true, ◌&&◌, nat_lt, List, count_by}
use Rattle.std.specs.List.{list_any}

-- X is what a letter may be about, as 'the ghosts of one side of a block, from one block behind it'. Each list has three tasks
-- for each round, to send, to read and to compute, and then the tail's
pub record Plan (X : Type 0) : Type 0 where
  pub lists : ℕ
  pub rounds : ℕ
  pub tail : ℕ
  -- the letters that are due in a round
  pub due : ℕ → List X
  pub same : X → X → Bool
  -- the list that sends a letter, and the one that reads it
  pub from : X → ℕ
  pub to : X → ℕ

-- how many tasks of a list come before the barrier, and how many there are
abbrev pub round_tasks : {X : Type 0} → Plan X → ℕ
round_tasks p = 3 * p.rounds

abbrev pub all_tasks : {X : Type 0} → Plan X → ℕ
all_tasks p = round_tasks p + p.tail

-- whether the task after that many is to send, or to read, the letters of round g / 3
abbrev pub is_sending : {X : Type 0} → Plan X → ℕ → Bool
is_sending p g = nat_lt g (round_tasks p) && g % 3 == 0

abbrev pub is_reading : {X : Type 0} → Plan X → ℕ → Bool
is_reading p g = nat_lt g (round_tasks p) && g % 3 == 1

-- whether a letter is due in a round
abbrev pub is_due : {X : Type 0} → Plan X → ℕ → X → Bool
is_due p r x = list_any (p.same x) (p.due r)

-- a plan: letters are told apart, each is due at most once in a round, and goes from a list to a list
pub record IsPlan {X : Type 0} (p : Plan X) : Type 0 where
  pub same_is : (x y : X) → p.same x y ≡ true → x ≡ y
  pub is_same : (x : X) → p.same x x ≡ true
  pub once : (r : ℕ) (x : X) → count_by (p.same x) (p.due r) ≤ 1
  pub sender : (r : ℕ) (x : X) → is_due p r x ≡ true → p.from x < p.lists
  pub reader : (r : ℕ) (x : X) → is_due p r x ≡ true → p.to x < p.lists
