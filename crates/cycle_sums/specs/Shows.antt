-- The sums of a cycle: over all its blocks, what its lists have counted.
use Rattle.std.specs.Prelude.{◌≡◌, ◌==◌, ℕ, ◌+◌, ◌<◌, cond, Some, List, find, length, replicate, slice_index, sum_by}
use Rattle.std.specs.List.{range_with_len}
use Rattle.package_fields.specs.declared.flow.Flow.{Flow}
use Rattle.package_fields.specs.Flow.{no_flow}
use Rattle.cycle_rounds.specs.Events as rounds
use Rattle.cycle_rounds.specs.Events.{Letter}
use Rattle.sparse_rounds.specs.Masked.{Run}
use Rattle.sparse_rounds.specs.Sparse.{Local}
use Rattle.cycle_events.specs.Cycles.{Cycle, StateOf, next, opening}
use Rattle.cycle_sums.specs.Sums.{AreSums, Sums, flow_at}

-- a run that has counted nothing yet
pub record IsUncounted {V : Type 0} (r : Run V) : Type 0 where
  pub inflow : (b f : ℕ) → r.inflow b f ≡ 0
  pub outflow : (b f : ℕ) → r.outflow b f ≡ 0
  pub made : (b f : ℕ) → r.made b f ≡ 0
  pub used : (b f : ℕ) → r.used b f ≡ 0
  pub dropped : (b f : ℕ) → r.dropped b f ≡ 0

-- the sums of so many fields of which nothing was counted
abbrev pub no_sums : ℕ → Sums
no_sums fields = record { flows = replicate fields no_flow; drops = replicate fields 0 }

module _ {X V G F P W : Type 0} (c : Cycle X V G F P W) where
  -- over all blocks, what their lists have counted of a field
  abbrev pub over_blocks : StateOf X V G F P W → (Local V G F W → ℕ → ℕ → ℕ) → ℕ → ℕ
  over_blocks s count f = sum_by (λ b. count (s.local (c.kernels.owner b)) b f) (range_with_len 0 c.size.blocks)

  -- over the blocks of a list
  abbrev pub over_list : ℕ → (ℕ → ℕ) → ℕ
  over_list list each = sum_by (λ b. cond (c.kernels.owner b == list) (each b) 0) (range_with_len 0 c.size.blocks)

  -- sums by field are those of a state
  pub record ShowsSums (s : StateOf X V G F P W) (v : Sums) : Type 0 where
    pub flow_count : length v.flows ≡ c.size.fields
    pub drop_count : length v.drops ≡ c.size.fields
    pub inflow : (f : ℕ) → f < c.size.fields →
        (flow_at v.flows f).inflow ≡ over_blocks s (λ (l : Local V G F W). l.inflow) f
    pub outflow : (f : ℕ) → f < c.size.fields →
        (flow_at v.flows f).outflow ≡ over_blocks s (λ (l : Local V G F W). l.outflow) f
    pub made : (f : ℕ) → f < c.size.fields →
        (flow_at v.flows f).made ≡ over_blocks s (λ (l : Local V G F W). l.made) f
    pub used : (f : ℕ) → f < c.size.fields →
        (flow_at v.flows f).used ≡ over_blocks s (λ (l : Local V G F W). l.used) f
    pub dropped : (f : ℕ) → f < c.size.fields →
        slice_index v.drops f ≡ over_blocks s (λ (l : Local V G F W). l.dropped) f

  -- what a list counts besides as its task is given, by field
  pub record Counts (list : ℕ) (old new : Local V G F W) (flows : List Flow) (drops : List ℕ) : Type 0 where
    pub inflow : (f : ℕ) → f < c.size.fields →
        over_list list (λ b. old.inflow b f) + (flow_at flows f).inflow ≡ over_list list (λ b. new.inflow b f)
    pub outflow : (f : ℕ) → f < c.size.fields →
        over_list list (λ b. old.outflow b f) + (flow_at flows f).outflow ≡ over_list list (λ b. new.outflow b f)
    pub made : (f : ℕ) → f < c.size.fields →
        over_list list (λ b. old.made b f) + (flow_at flows f).made ≡ over_list list (λ b. new.made b f)
    pub used : (f : ℕ) → f < c.size.fields →
        over_list list (λ b. old.used b f) + (flow_at flows f).used ≡ over_list list (λ b. new.used b f)
    pub dropped : (f : ℕ) → f < c.size.fields →
        over_list list (λ b. old.dropped b f) + slice_index drops f ≡ over_list list (λ b. new.dropped b f)

-- sums of nothing are those of the opening
abbrev pub OpeningsCountNothing : (X V G F P W : Type 0) → Type 0
OpeningsCountNothing X V G F P W = (c : Cycle X V G F P W) → IsUncounted c.start →
    ShowsSums c (opening c) (no_sums c.size.fields)

-- a Take and a Deliver leave them; a Give adds what its list counts
abbrev pub TakesCountNothing : (X V G F P W : Type 0) → Type 0
TakesCountNothing X V G F P W = (c : Cycle X V G F P W) (s : StateOf X V G F P W) (v : Sums) (seat list : ℕ) →
    ShowsSums c s v → ShowsSums c (next c s (rounds.take seat list)) v

abbrev pub DeliveriesCountNothing : (X V G F P W : Type 0) → Type 0
DeliveriesCountNothing X V G F P W =
    (c : Cycle X V G F P W) (s : StateOf X V G F P W) (v : Sums) (seat number : ℕ) (l : Letter X (ℕ → P)) →
    find (λ (y : Letter X (ℕ → P)). y.number == number) s.wire ≡ Some l → ShowsSums c s v →
    ShowsSums c (next c s (rounds.deliver seat number)) v

abbrev pub GivesCount : (X V G F P W : Type 0) → Type 0
GivesCount X V G F P W =
    (c : Cycle X V G F P W) (s : StateOf X V G F P W) (v new : Sums) (seat list : ℕ) (flows : List Flow)
    (drops : List ℕ) → ShowsSums c s v →
    Counts c list (s.local list) ((next c s (rounds.give seat list)).local list) flows drops →
    AreSums v new flows drops → ShowsSums c (next c s (rounds.give seat list)) new
