-- Which letters are due.
use Rattle.std.specs.Prelude.{◌≡◌, ℕ, ◌<◌, Contains, List, length, ◌↔◌}
use Rattle.std.specs.List.{slice_index_or}
use Rattle.morton_order.specs.declared.space.Loc.{Loc}
use Rattle.block_tree.specs.Behind.{Behind, Names, behind, fine}
use Rattle.mesh_rules.specs.Mesh.{IsMesh, Mesh, is_inner}
use Rattle.mesh_rules.specs.Due.{Exchange, flux_letters, ghost_letters}

-- the leaf with a number
abbrev pub leaf_of : Mesh → ℕ → Loc
leaf_of m b = slice_index_or m.leaves b (record { level = 0; l1 = 0; l2 = 0; l3 = 0 })

-- what stands behind the side of its receiver that a letter comes across
abbrev pub behind_letter : Mesh → Exchange → Behind
behind_letter m x = behind m.shape (is_inner m) (leaf_of m x.to) x.axis x.high

-- a letter between leaves, of which the sender stands behind the side of the receiver
pub record IsDue (m : Mesh) (x : Exchange) : Type 0 where
  pub from_few : x.from < length m.leaves
  pub to_few : x.to < length m.leaves
  pub used : x.axis < m.shape.dims
  pub names : Names (behind_letter m x) (leaf_of m x.from)

-- and is finer than the receiver
pub record IsFluxDue (m : Mesh) (x : Exchange) : Type 0 where
  pub due : IsDue m x
  pub finer : List Loc
  pub is : behind_letter m x ≡ fine finer

-- just these are the letters of a stage
abbrev pub GhostLettersAreDue : Type 0
GhostLettersAreDue = (m : Mesh) (x : Exchange) → IsMesh m → Contains (ghost_letters m) x ↔ IsDue m x

abbrev pub FluxLettersAreDue : Type 0
FluxLettersAreDue = (m : Mesh) (x : Exchange) → IsMesh m → Contains (flux_letters m) x ↔ IsFluxDue m x
