-- The totals of a mesh state, added up.
use Rattle.std.specs.Prelude.{◌≡◌, ℕ, ◌-◌, ◌^◌, ◌<◌, ◌≤◌, List, length, slice_index, sum}
use Rattle.block_layout.specs.declared.layout.Layout.{Layout}
use Rattle.alloc_epochs.specs.Shelf.{place_on}
use Rattle.problem_set.specs.Settings.{Settings}
use Rattle.mesh_rules.specs.Sums.{sum_to}
use Rattle.mesh_rules.specs.Fit.{IsMeshOf, sum_of_all}
use Rattle.mesh_rules.specs.Cycle.{State}
use Rattle.cell_block.specs.State.{HasLayout, Stored}
use Rattle.cell_block.specs.Rules.{IsStoredFor, StandsFor, interior_at, mesh_in}

-- the totals of a mesh state can be added up: it is a problem's, nothing is lent, its mesh is one of the problem, and all
-- totals together are below 2^62
pub record CanCount (p : Settings) (s : Stored) : Type 0 where
  pub stored : IsStoredFor p s
  pub mesh : (l : Layout) → HasLayout s l → IsMeshOf p (mesh_in l s)
  pub bound : (l : Layout) → HasLayout s l → sum_of_all p (mesh_in l s) ≤ 2 ^ 62 - 1

-- so can those of one that stands for a state with such a mesh
abbrev pub StandingCounts : Type 0
StandingCounts = (p : Settings) (s : Stored) (c : State) → StandsFor p s c → IsMeshOf p c.mesh → sum_of_all p c.mesh ≤ 2 ^ 62 - 1 → CanCount p s

-- what a field's totals on a block add up to, and those on the first blocks
abbrev pub sum_on_block : Layout → Stored → ℕ → ℕ → ℕ
sum_on_block l s f leaf = sum (interior_at l s (place_on leaf f))

abbrev pub sum_below : Layout → Stored → ℕ → ℕ → ℕ
sum_below l s leaves f = sum_to leaves (sum_on_block l s f)

-- a list has what each field gives
pub record AreSums (fields : ℕ) (each : ℕ → ℕ) (totals : List ℕ) : Type 0 where
  pub long : length totals ≡ fields
  pub items : (f : ℕ) → f < fields → slice_index totals f ≡ each f
