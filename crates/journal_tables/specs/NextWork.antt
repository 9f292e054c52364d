-- What can be done next, by the tables and in the state that they show.
use Rattle.std.specs.Prelude.{◌≡◌, ◌==◌, ℕ, ◌≤◌, true, false, Some, None, is_some, List, [], count_by, find}
use Rattle.std.specs.List.{range_with_len}
use Rattle.cycle_rounds.specs.Events as rounds
use Rattle.cycle_rounds.specs.Events.{Letter, State}
use Rattle.cycle_rounds.specs.Plan.{Plan}
use Rattle.cycle_tables.specs.declared.letter.Letter.{Letter as Posted}
use Rattle.cycle_tables.specs.Tables.{Protocol, is_done, leases, may_take, post_of}
use Rattle.cycle_table_laws.specs.Shows.{Says}
use Rattle.cycle_events.specs.declared.event.Event.{Event}
use Rattle.cycle_events.specs.Cycles.{Cycle, IsCycle, plan, state_of}
use Rattle.journal_tables.specs.declared.work.NextWork.{NextWork}
use Rattle.journal_tables.specs.declared.work.NextWork.TheVariants as next
use Rattle.journal_tables.specs.Follows.{Follows}

-- no task may be taken
abbrev pub NoneReady : {T : Type 0} → Protocol T → Type 0
NoneReady v = (i : ℕ) → may_take v i ≡ false

-- a letter on the wire to a list
pub record IsPostedTo {T : Type 0} (v : Protocol T) (number i : ℕ) : Type 0 where
  pub letter : Posted T
  pub there : post_of v number ≡ Some letter
  pub to : letter.to ≡ i

-- neither a task nor a letter, and not all is done
pub record IsStill {T : Type 0} (v : Protocol T) (out : ℕ) : Type 0 where
  pub none_ready : NoneReady v
  pub empty_wire : (k : ℕ) → post_of v k ≡ None
  pub not_done : is_done v ≡ false
  pub counted : out ≡ leases v

-- what can be done next, by the tables
abbrev pub IsNext : {T : Type 0} → Protocol T → NextWork → Type 0
IsNext v (next.Task i) = may_take v i ≡ true
IsNext v (next.Letter number i) = NoneReady v × IsPostedTo v number i
IsNext v next.Done = is_done v ≡ true
IsNext v (next.Waiting out) = IsStill v out

-- a letter of a number on the wire of a state, to a list
pub record IsOnWireTo {X L P : Type 0} (p : Plan X) (s : State X L P) (number i : ℕ) : Type 0 where
  pub letter : Letter X P
  pub found : find (λ (y : Letter X P). y.number == number) s.wire ≡ Some letter
  pub to : p.to letter.of ≡ i

-- how many tasks are out in a state
abbrev pub leases_in : {X L P : Type 0} → Plan X → State X L P → ℕ
leases_in p s = count_by (λ i. is_some (s.out i)) (range_with_len 0 p.lists)

-- a state in which nothing can be done until a task is given
pub record IsWaitingIn {X L P : Type 0} (p : Plan X) (s : State X L P) (out : ℕ) : Type 0 where
  pub none_ready : (i : ℕ) → rounds.may_take p s i ≡ false
  pub empty_wire : s.wire ≡ []
  pub not_done : rounds.is_complete p s ≡ false
  pub counted : out ≡ leases_in p s
  pub some : 1 ≤ out

-- what can be done next in a state
abbrev pub IsNextIn : {X L P : Type 0} → Plan X → State X L P → NextWork → Type 0
IsNextIn p s (next.Task i) = rounds.may_take p s i ≡ true
IsNextIn p s (next.Letter number i) = ((j : ℕ) → rounds.may_take p s j ≡ false) × IsOnWireTo p s number i
IsNextIn p s next.Done = rounds.is_complete p s ≡ true
IsNextIn p s (next.Waiting out) = IsWaitingIn p s out

-- what the tables say is so in the state after the journal that they follow
abbrev pub WorkIsTold : (X V G F P W T : Type 0) → Type 0
WorkIsTold X V G F P W T = (c : Cycle X V G F P W) (of : T → X) (content : T → ℕ → P) (events : List Event)
    (v : Protocol T) (work : NextWork) → IsCycle c → Follows c (Says of content) events v → IsNext v work →
    IsNextIn (plan c) (state_of c events) work
