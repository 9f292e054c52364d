-- The mesh of a cycle: its blocks by their numbers, what stands behind their sides, and what stands outside of the domain.
use Rattle.std.specs.Prelude.{ℕ, ◌-◌, Bool, true, false, cond, ◌&&◌, ◌||◌, nat_lt, min, List, length}
use Rattle.std.specs.List.{list_any, range_with_len, slice_index_or}
use Rattle.morton_order.specs.declared.space.Loc.{Loc}
use Rattle.block_tree.specs.Behind.{Behind, behind, outside, same, coarse, fine}
use Rattle.package_fields.specs.Kernel.{Reacted}
use Rattle.problem_set.specs.Settings.{Settings}
use Rattle.mesh_rules.specs.Mesh.{Mesh, is_inner}
use Rattle.mesh_rules.specs.Fields as fields
use Rattle.mesh_rules.specs.Fields.{field_count}
use Rattle.mesh_rules.specs.Due.{partition_of}
use Rattle.block_layout.specs.declared.layout.Layout.{Layout}

-- what the kernels of a cycle read: the settings, a mesh, of which they read the tree and no totals, how the totals of its blocks
-- lie in lists, and what the reactions make of a cell
pub record CycleMesh : Type 0 where
  pub settings : Settings
  pub mesh : Mesh
  pub layout : Layout
  pub react : List ℕ → Reacted

-- how many blocks there are; each is a leaf, and has its number
abbrev pub block_count : CycleMesh → ℕ
block_count w = length w.mesh.leaves

abbrev pub leaf_at : CycleMesh → ℕ → Loc
leaf_at w b = slice_index_or w.mesh.leaves b (record { level = 0; l1 = 0; l2 = 0; l3 = 0 })

-- the list of tasks that a block belongs to; a number that no block has goes with the last block
abbrev pub owner_of : CycleMesh → ℕ → ℕ
owner_of w b = partition_of w.settings (block_count w) (min b (block_count w - 1))

-- whether blocks may go without a field; they all go without what is no field
abbrev pub may_lack : CycleMesh → ℕ → Bool
may_lack w f = cond (nat_lt f (field_count w.settings)) (fields.is_sparse w.settings f) true

-- whether a side of a block is a face of the domain
abbrev pub is_outside : Behind → Bool
is_outside outside = true
is_outside (same _) = false
is_outside (coarse _) = false
is_outside (fine _) = false

abbrev pub is_domain_face : CycleMesh → ℕ → ℕ → Bool → Bool
is_domain_face w b axis high = nat_lt b (block_count w) && is_outside (behind w.mesh.shape (is_inner w.mesh) (leaf_at w b) axis high)

-- a field's total in each cell beyond a side of a block that is a face of the domain
abbrev pub total_outside : CycleMesh → ℕ → ℕ → ℕ → Bool → ℕ
total_outside w b f axis high = cond (is_domain_face w b axis high) (fields.outside w.settings f axis high (leaf_at w b).level) 0

-- whether such a total is above a threshold
abbrev pub enters_above : ℕ → CycleMesh → ℕ → ℕ → Bool
enters_above threshold w b f =
    list_any (λ axis. nat_lt threshold (total_outside w b f axis false) || nat_lt threshold (total_outside w b f axis true)) (range_with_len 0 w.mesh.shape.dims)
