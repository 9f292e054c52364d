-- Every legal list of events comes to the same end, that of the masked serial run.
use Rattle.std.specs.Prelude.{◌≡◌, ℕ, ◌*◌, true, Some, is_some, List, ◌++◌}
use Rattle.cycle_rounds.specs.Events.{Each, Event, IsHistory, Letter, State, is_complete, replay}
use Rattle.sparse_rounds.specs.Kernels.{AreKernels, Kernels}
use Rattle.sparse_rounds.specs.Masked.{IsStart, Run, checked_run, reacted_run, touched}
use Rattle.sparse_rounds.specs.Sparse.{Local, plan_of, sparse}
use Rattle.sparse_rounds.specs.Agreement.{Agrees, LetterAgrees, RunAgrees}

-- the state that a list of events leads to
abbrev pub reached : {X V G F P W : Type 0} → Kernels X V G F P W → Run V → List Event → State X (Local V G F W) (ℕ → P)
reached k start events = replay (plan_of k) (sparse k start) events

-- each block and field of such a state agrees with the masked serial run, as far as its list has come
abbrev pub StaysMasked : (X V G F P W : Type 0) → Type 0
StaysMasked X V G F P W = (k : Kernels X V G F P W) (start : Run V) (events : List Event) → AreKernels k → IsStart k start → IsHistory (plan_of k) (sparse k start) events → (b f : ℕ) →
    Agrees k start ((reached k start events).given (k.owner b)) (is_some ((reached k start events).out (k.owner b))) ((reached k start events).local (k.owner b)) b f

-- and so does each letter on the wire or in the mail
abbrev pub LettersStayTrue : (X V G F P W : Type 0) → Type 0
LettersStayTrue X V G F P W = (k : Kernels X V G F P W) (start : Run V) (events : List Event) → AreKernels k → IsStart k start → IsHistory (plan_of k) (sparse k start) events →
    Each (λ (l : Letter X (ℕ → P)). LetterAgrees k start l.round l.of l.content) ((reached k start events).wire ++ (reached k start events).mail)

-- where a list has given all its stages' tasks and no more, its buffers are exactly those that the exchanges called for
abbrev pub BuffersAreThose : (X V G F P W : Type 0) → Type 0
BuffersAreThose X V G F P W = (k : Kernels X V G F P W) (start : Run V) (events : List Event) → AreKernels k → IsStart k start → IsHistory (plan_of k) (sparse k start) events → (b f : ℕ) →
    (reached k start events).given (k.owner b) ≡ 6 * k.stages → is_some (((reached k start events).local (k.owner b)).bufs b f) ≡ touched k start k.stages b f

-- a place at the end of a cycle: all is the run's after the check, a buffer is there exactly where it is kept, and the wishes are those of the run
pub record EndsAs {X V G F P W : Type 0} (k : Kernels X V G F P W) (start : Run V) (l : Local V G F W) (b f : ℕ) : Type 0 where
  pub run : RunAgrees k (checked_run k start) l b f
  pub buffers : is_some (l.bufs b f) ≡ (checked_run k start).kept b f
  pub wishes : l.wishes b ≡ Some (k.wish b ((reacted_run k start).mesh b))

-- every complete list of events ends as the masked serial run does, whatever its order
abbrev pub EndsMasked : (X V G F P W : Type 0) → Type 0
EndsMasked X V G F P W = (k : Kernels X V G F P W) (start : Run V) (events : List Event) → AreKernels k → IsStart k start → IsHistory (plan_of k) (sparse k start) events →
    is_complete (plan_of k) (reached k start events) ≡ true → (b f : ℕ) → EndsAs k start ((reached k start events).local (k.owner b)) b f
