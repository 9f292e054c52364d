-- What a cycle has counted so far is no more than what it comes to.
use Rattle.std.specs.Prelude.{ℕ, ◌≤◌, List}
use Rattle.sparse_rounds.specs.Balance.{sum_blocks}
use Rattle.sparse_rounds.specs.Masked.{checked_run}
use Rattle.sparse_rounds.specs.Sparse.{Local}
use Rattle.cycle_events.specs.declared.event.Event.{Event}
use Rattle.cycle_events.specs.Cycles.{Cycle, IsCycle, state_of}
use Rattle.cycle_events.specs.Journals.{IsJournal}
use Rattle.cycle_sums.specs.Shows.{over_blocks}

-- the sums of a field after some events, and those of the masked serial run after its check
pub record StaysBelow {X V G F P W : Type 0} (c : Cycle X V G F P W) (events : List Event) (f : ℕ) : Type 0 where
  pub inflow : over_blocks c (state_of c events) (λ (l : Local V G F W). l.inflow) f
      ≤ sum_blocks c.size.blocks (checked_run c.kernels c.start).inflow f
  pub outflow : over_blocks c (state_of c events) (λ (l : Local V G F W). l.outflow) f
      ≤ sum_blocks c.size.blocks (checked_run c.kernels c.start).outflow f
  pub made : over_blocks c (state_of c events) (λ (l : Local V G F W). l.made) f
      ≤ sum_blocks c.size.blocks (checked_run c.kernels c.start).made f
  pub used : over_blocks c (state_of c events) (λ (l : Local V G F W). l.used) f
      ≤ sum_blocks c.size.blocks (checked_run c.kernels c.start).used f
  pub dropped : over_blocks c (state_of c events) (λ (l : Local V G F W). l.dropped) f
      ≤ sum_blocks c.size.blocks (checked_run c.kernels c.start).dropped f

abbrev pub SumsStayBelow : (X V G F P W : Type 0) → Type 0
SumsStayBelow X V G F P W = (c : Cycle X V G F P W) (events : List Event) (f : ℕ) → IsCycle c → IsJournal c events →
    StaysBelow c events f
