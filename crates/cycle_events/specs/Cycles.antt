-- A cycle of a mesh, and the states that its events lead to.
use Rattle.std.specs.Prelude.{ℕ, List, map}
use Rattle.cycle_rounds.specs.Plan.{Plan}
use Rattle.cycle_rounds.specs.Events as rounds
use Rattle.cycle_rounds.specs.Events.{Machine, State, after, begin, step}
use Rattle.sparse_rounds.specs.Kernels.{AreKernels, Kernels}
use Rattle.sparse_rounds.specs.Masked.{IsStart, Run}
use Rattle.sparse_rounds.specs.Sparse.{Local, plan_of, sparse}
use Rattle.sparse_rounds.specs.Epochs.{Size}
use Rattle.cycle_events.specs.declared.event.Event.{Event}
use Rattle.cycle_events.specs.declared.event.Event.TheVariants.{Take, Give, Deliver}

-- the kernels of a cycle's mesh, the run that it starts from, and how many blocks and fields there are
pub record Cycle (X V G F P W : Type 0) : Type 0 where
  pub kernels : Kernels X V G F P W
  pub start : Run V
  pub size : Size

-- its kernels meet the laws, and it may start from that run
pub record IsCycle {X V G F P W : Type 0} (c : Cycle X V G F P W) : Type 0 where
  pub kernels : AreKernels c.kernels
  pub start : IsStart c.kernels c.start

-- a state of a cycle: each list of tasks with its buffers, and the letters, which have a part for each field
abbrev pub StateOf : (X V G F P W : Type 0) → Type 0
StateOf X V G F P W = State X (Local V G F W) (ℕ → P)

-- an event without its task and places, which the state in which it comes tells
abbrev pub forget : Event → rounds.Event
forget (Take seat list task places) = rounds.take seat list
forget (Give seat list task made freed) = rounds.give seat list
forget (Deliver seat letter made) = rounds.deliver seat letter

module _ {X V G F P W : Type 0} (c : Cycle X V G F P W) where
  -- the lists of tasks and their letters, and what becomes of the lists' buffers
  abbrev pub plan : Plan X
  plan = plan_of c.kernels

  abbrev pub machine : Machine X (Local V G F W) (ℕ → P)
  machine = sparse c.kernels c.start

  -- the state in which the cycle begins, and the state after an event
  abbrev pub opening : StateOf X V G F P W
  opening = begin machine

  abbrev pub next : StateOf X V G F P W → rounds.Event → StateOf X V G F P W
  next s e = step plan machine s e

  -- the state that the events of a journal lead to
  abbrev pub state_of : List Event → StateOf X V G F P W
  state_of events = after plan machine opening (map forget events)
