-- Which mesh with its mask, and which state, the lists are.
use Rattle.std.specs.Prelude.{ℕ, List, length}
use Rattle.block_tree.specs.Blocks.{TreeOfBlocks, leaves}
use Rattle.problem_set.specs.Settings.{Settings}
use Rattle.mesh_rules.specs.Fields.{field_count}
use Rattle.mesh_rules.specs.Cycle.{Held, State}
use Rattle.block_layout.specs.declared.layout.Layout.{Layout}
use Rattle.dense_mesh.specs.Meshes.{IsMeshIn, mesh_of}
use Rattle.dense_mesh.specs.Masks.{AreSlots, mask_of}
use Rattle.dense_cycle.specs.declared.state.DenseHeld.{DenseHeld}
use Rattle.dense_cycle.specs.declared.state.DenseState.{DenseState}

-- the mesh and the mask of lists on a tree
abbrev pub held_of : TreeOfBlocks → List ℕ → DenseHeld → Held
held_of t cells h = record { mesh = mesh_of t cells h.lists; mask = mask_of (length (leaves t)) h.slots }

-- the state of lists on a tree
abbrev pub state_of : TreeOfBlocks → List ℕ → DenseState → State
state_of t cells s = record { mesh = mesh_of t cells s.held.lists; mask = mask_of (length (leaves t)) s.held.slots; counters = s.counters }

-- lists are a mesh of a problem and have a slot for each leaf and field
pub record IsHeldIn (p : Settings) (t : TreeOfBlocks) (l : Layout) (h : DenseHeld) : Type 0 where
  pub lists : IsMeshIn p t l h.lists
  pub slots : AreSlots (field_count p) (length (leaves t)) h.slots
