-- What flows through the faces of the domain at a leaf.
use Rattle.std.specs.Prelude.{ℕ, ◌+◌, true, false, List}
use Rattle.morton_order.specs.declared.space.Loc.{Loc}
use Rattle.morton_order.specs.declared.space.Shape.{Shape}
use Rattle.morton_order.specs.Neighbours.{across}
use Rattle.mesh_rules.specs.Stage.{when_outside}
use Rattle.block_layout.specs.declared.layout.Layout.{Layout}
use Rattle.flow_laws.specs.Flows.{passed_side}

-- what flows in along an axis: to the right at the low side, to the left at the high one; what flows out is that of the lists exchanged
abbrev pub inflow_along : Shape → Loc → Layout → List ℕ → List ℕ → ℕ → ℕ
inflow_along s leaf l right left axis = when_outside (across s leaf axis false) (passed_side l right axis false) + when_outside (across s leaf axis true) (passed_side l left axis true)
