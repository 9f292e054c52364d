-- What has flowed of each field, and what was dropped of it.
use Rattle.std.specs.Prelude.{◌≡◌, ℕ, ◌+◌, ◌<◌, ◌^◌, List, length, slice_index}
use Rattle.std.specs.List.{slice_index_or}
use Rattle.package_fields.specs.declared.flow.Flow.{Flow}
use Rattle.package_fields.specs.Flow.{IsBelow, no_flow}

-- by field
pub record Sums : Type 0 where
  pub flows : List Flow
  pub drops : List ℕ

-- what has flowed of a field; nothing of one past the end
abbrev pub flow_at : List Flow → ℕ → Flow
flow_at flows f = slice_index_or flows f no_flow

-- two flows together
abbrev pub flow_sum : Flow → Flow → Flow
flow_sum a b = record {
  inflow = a.inflow + b.inflow;
  outflow = a.outflow + b.outflow;
  made = a.made + b.made;
  used = a.used + b.used;
}

-- flows can be added to others one by one, and so can drops: no sum takes more than 128 bits
abbrev pub FlowsFit : List Flow → List Flow → Type 0
FlowsFit old more = (f : ℕ) → f < length more → IsBelow (2 ^ 128) (flow_sum (flow_at old f) (flow_at more f))

abbrev pub DropsFit : List ℕ → List ℕ → Type 0
DropsFit old more = (f : ℕ) → f < length more → slice_index old f + slice_index more f < 2 ^ 128

-- flows that were added, and drops; past the end of what is added nothing is
pub record AreFlowSums (old more new : List Flow) : Type 0 where
  pub as_many : length new ≡ length old
  pub each : (f : ℕ) → f < length old → flow_at new f ≡ flow_sum (flow_at old f) (flow_at more f)

pub record AreDropSums (old more new : List ℕ) : Type 0 where
  pub as_many : length new ≡ length old
  pub each : (f : ℕ) → f < length old → slice_index new f ≡ slice_index old f + slice_index more f

-- both
pub record AreSums (old new : Sums) (flows : List Flow) (drops : List ℕ) : Type 0 where
  pub flows_added : AreFlowSums old.flows flows new.flows
  pub drops_added : AreDropSums old.drops drops new.drops
