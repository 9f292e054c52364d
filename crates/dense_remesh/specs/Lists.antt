-- Lists on a tree, and what they are of the lists on an old one.
use Rattle.std.specs.Prelude.{◌≡◌, ℕ, ◌<◌, List, [], length}
use Rattle.std.specs.List.{slice_index_or}
use Rattle.morton_order.specs.declared.space.Loc.{Loc}
use Rattle.block_tree.specs.Blocks.{TreeOfBlocks, leaves}
use Rattle.problem_set.specs.Settings.{Settings}
use Rattle.mesh_rules.specs.Mesh.{Mesh}
use Rattle.mesh_rules.specs.Fields.{field_count}
use Rattle.mesh_rules.specs.Mask.{carried_mask}
use Rattle.mesh_rules.specs.Remesh.{carried_counters, remapped}
use Rattle.dense_mesh.specs.declared.totals.Slot.{Slot}
use Rattle.dense_mesh.specs.Masks.{mask_of}
use Rattle.dense_mesh.specs.Meshes.{mesh_of}

-- a list for each of some leaves, of so many fields
pub record HaveLeafLists (count : ℕ) (places : List Loc) (lists : List (List (List ℕ))) : Type 0 where
  pub fields : length lists ≡ count
  pub leaves : (f : ℕ) → f < count → length (slice_index_or lists f []) ≡ length places

-- the mesh on the next tree: each total is the look on the mesh of the old lists
abbrev pub AreRemapped : Settings → TreeOfBlocks → TreeOfBlocks → List (List (List ℕ)) → List (List (List ℕ)) → Type 0
AreRemapped p old next lists new =
    mesh_of next p.cells new ≡ remapped (mesh_of old p.cells lists) (field_count p) next.inner (leaves next)

-- the mask on the leaves of the next tree, for any mesh on the old one
abbrev pub AreCarried : Settings → TreeOfBlocks → TreeOfBlocks → List (List Slot) → List (List Slot) → Type 0
AreCarried p old next slots new = (m : Mesh) → m.shape ≡ old.shape → m.leaves ≡ leaves old →
    mask_of (length (leaves next)) new ≡ carried_mask p m (mask_of (length (leaves old)) slots) (leaves next)

-- the counters of the leaves of the next tree, for any mesh on the old one
abbrev pub AreCarriedCounters : TreeOfBlocks → TreeOfBlocks → List ℕ → List ℕ → Type 0
AreCarriedCounters old next counters new = (m : Mesh) → m.leaves ≡ leaves old → new ≡ carried_counters m counters (leaves next)
