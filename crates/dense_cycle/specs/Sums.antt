-- For the code: flows that others are added to, one by one.
use Rattle.std.specs.Prelude.{ℕ, ◌+◌, ◌<◌, ◌^◌, List, All}
use Rattle.std.specs.List.{slice_index_or}
use Rattle.package_fields.specs.declared.flow.Flow.{Flow}
use Rattle.package_fields.specs.Flow.{no_flow}
use Rattle.dense_cycle.specs.declared.fields.DomainFlow.{DomainFlow}

-- flows to which more can be added
pub record IsSmallFlow (flow : Flow) : Type 0 where
  pub inflow : flow.inflow < 2 ^ 100
  pub outflow : flow.outflow < 2 ^ 100

abbrev pub AreSmallFlows : List Flow → Type 0
AreSmallFlows flows = All IsSmallFlow flows

-- what passes in a stage can be added to them
pub record IsSmallPassed (x : DomainFlow) : Type 0 where
  pub inflow : x.inflow < 2 ^ 64
  pub outflow : x.outflow < 2 ^ 64

-- a flow with what passed in one more stage
abbrev pub flow_with : Flow → DomainFlow → Flow
flow_with flow x = record flow { inflow = flow.inflow + x.inflow; outflow = flow.outflow + x.outflow }

-- a flow with what was made and used
abbrev pub reacted_flow : Flow → ℕ → ℕ → Flow
reacted_flow flow made used = record flow { made = made; used = used }

-- what lists have of a field
abbrev pub flow_at : List Flow → ℕ → Flow
flow_at flows k = slice_index_or flows k no_flow

abbrev pub passed_at : List DomainFlow → ℕ → DomainFlow
passed_at passed k = slice_index_or passed k (record { inflow = 0; outflow = 0 })
