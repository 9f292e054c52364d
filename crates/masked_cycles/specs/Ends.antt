-- Every complete list of events over the blocks of a mesh ends as the cycle of the rules does.
use Rattle.std.specs.Prelude.{◌≡◌, ℕ, true, Some, is_some, List}
use Rattle.mesh_rules.specs.declared.wish.Wish.{Wish}
use Rattle.mesh_rules.specs.Mesh.{totals_on}
use Rattle.mesh_rules.specs.Mask.{Slot, slot_at}
use Rattle.cycle_rounds.specs.Events.{Event, IsHistory, is_complete}
use Rattle.sparse_rounds.specs.Sparse.{Local, plan_of, read, sparse}
use Rattle.sparse_rounds.specs.Laws.{reached}
use Rattle.cycle_kernels.specs.Pairs.{FacePairs}
use Rattle.masked_cycles.specs.Cycles.{Cycle, IsCycle, IsPlace, held_checked, kernels, start_of}
use Rattle.masked_cycles.specs.Cycles.{leaf_drop, leaf_flow, leaf_wish}

-- what the check says of a field on a leaf
abbrev pub slot_checked : Cycle → ℕ → ℕ → Slot
slot_checked c b f = slot_at (held_checked c).mask b f

-- a list of tasks has the totals of a field on a leaf that the check leaves, and its mask; a buffer is there exactly
-- where the field is kept; the block wishes what the leaf wishes; and what was dropped and has flowed is what the cycle
-- drops and what flows in it
pub record EndsAsCycle (c : Cycle) (l : Local (List ℕ) (List ℕ) FacePairs Wish) (b f : ℕ) : Type 0 where
  pub totals : (read (kernels c) (l.bufs b f)).cells ≡ totals_on (held_checked c).mesh b f
  pub buffers : is_some (l.bufs b f) ≡ (slot_checked c b f).kept
  pub keeps : l.kept b f ≡ (slot_checked c b f).kept
  pub idles : l.idle b f ≡ (slot_checked c b f).idle
  pub wished : l.wishes b ≡ Some (leaf_wish c b)
  pub drops : l.dropped b f ≡ leaf_drop c b f
  pub flows_in : l.inflow b f ≡ (leaf_flow c b f).inflow
  pub flows_out : l.outflow b f ≡ (leaf_flow c b f).outflow
  pub makes : l.made b f ≡ (leaf_flow c b f).made
  pub uses : l.used b f ≡ (leaf_flow c b f).used

-- the list that a block belongs to, at the end of a list of events
abbrev pub CyclesEnd : Type 0
CyclesEnd = (c : Cycle) (events : List Event) (b f : ℕ) → IsCycle c → IsPlace c b f →
    IsHistory (plan_of (kernels c)) (sparse (kernels c) (start_of c)) events →
    is_complete (plan_of (kernels c)) (reached (kernels c) (start_of c) events) ≡ true →
    EndsAsCycle c ((reached (kernels c) (start_of c) events).local ((kernels c).owner b)) b f
