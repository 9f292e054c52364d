-- The states with which a cycle may start.
use Rattle.std.specs.Prelude.{◌≡◌, ℕ, ◌+◌, ◌*◌, ◌-◌, ◌^◌, ◌<◌, ◌≤◌, true, false, [], All, length, IsTrue}
use Rattle.std.specs.List.{slice_index_or}
use Rattle.morton_order.specs.declared.space.Loc.{Loc}
use Rattle.problem_set.specs.Settings.{Settings}
use Rattle.problem_set.specs.Rates.{stage_inflow}
use Rattle.mesh_rules.specs.Sums.{sum_to}
use Rattle.mesh_rules.specs.Mesh.{IsMesh, Mesh, block_size, is_inner, total_of, totals_on}
use Rattle.mesh_rules.specs.Fields.{field_count, is_sparse}
use Rattle.mesh_rules.specs.Mask.{Mask, slot_at}
use Rattle.mesh_rules.specs.Cycle.{State}
use Rattle.mesh_rules.specs.Run.{leaf_limit}

-- a mesh of a problem: on a balanced tree of its lattice, with few leaves and none too fine, and a total for each cell of each field
pub record IsMeshOf (p : Settings) (m : Mesh) : Type 0 where
  pub mesh : IsMesh m
  pub shape : m.shape ≡ p.shape
  pub cells : m.cells ≡ p.cells
  pub few : length m.leaves ≤ leaf_limit
  pub coarse : (l : Loc) → IsTrue (is_inner m l) → l.level + 2 ≤ p.levels
  pub leaf_lists : length m.totals ≡ length m.leaves
  pub field_lists : (leaf : ℕ) → leaf < length m.leaves → length (slice_index_or m.totals leaf []) ≡ field_count p
  pub cell_lists : (leaf f : ℕ) → leaf < length m.leaves → f < field_count p → length (totals_on m leaf f) ≡ block_size m

-- a mask of a problem: a slot for each leaf and field, fields that blocks may not go without are kept, what is not kept is all zero
-- and idle at no check, and what is kept was idle less often than frees it
pub record IsMaskOf (p : Settings) (m : Mesh) (mask : Mask) : Type 0 where
  pub leaf_slots : length mask ≡ length m.leaves
  pub field_slots : (leaf : ℕ) → leaf < length m.leaves → length (slice_index_or mask leaf []) ≡ field_count p
  pub always : (leaf f : ℕ) → leaf < length m.leaves → f < field_count p → is_sparse p f ≡ false → (slot_at mask leaf f).kept ≡ true
  pub zero : (leaf f : ℕ) → leaf < length m.leaves → f < field_count p → (slot_at mask leaf f).kept ≡ false → All (λ total. total ≡ 0) (totals_on m leaf f)
  pub fresh : (leaf f : ℕ) → leaf < length m.leaves → f < field_count p → (slot_at mask leaf f).kept ≡ false → (slot_at mask leaf f).idle ≡ 0
  pub idle : (leaf f : ℕ) → leaf < length m.leaves → f < field_count p → (slot_at mask leaf f).idle < p.dealloc_count

-- the sum of all totals of all fields
abbrev pub sum_of_all : Settings → Mesh → ℕ
sum_of_all p m = sum_to (field_count p) (total_of m)

-- what may come in during a cycle
abbrev pub cycle_inflow : Settings → ℕ
cycle_inflow p = stage_inflow p.shape.dims p.size p.faces p.fields.fields p.moves * p.nstages

-- a state from which a cycle may start
pub record IsFit (p : Settings) (s : State) : Type 0 where
  pub mesh : IsMeshOf p s.mesh
  pub mask : IsMaskOf p s.mesh s.mask
  pub counter_list : length s.counters ≡ length s.mesh.leaves
  pub counters : All (λ count. count ≤ p.derefine_count) s.counters
  pub room : sum_of_all p s.mesh + cycle_inflow p ≤ 2 ^ 62 - 1
