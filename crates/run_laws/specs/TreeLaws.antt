-- The trees of a run.
use Rattle.std.specs.Prelude.{◌≡◌, ℕ, List, map}
use Rattle.package_fields.specs.Kernel.{Reacted}
use Rattle.problem_set.specs.declared.problem.Problem.{Problem}
use Rattle.problem_set.specs.SettingsOf.{settings_of}
use Rattle.block_tree.specs.Least.{IsLeast, wanted_by}
use Rattle.block_tree.specs.Next.{IsNear, IsNext, tag_at}
use Rattle.mesh_rules.specs.Mesh.{is_inner}
use Rattle.mesh_rules.specs.Remesh.{next_tree}
use Rattle.mesh_rules.specs.Cycle.{State, tags_of}
use Rattle.mesh_rules.specs.Opening.{opening_tree, static_of}
use Rattle.mesh_rules.specs.Run.{Reached, run, running}
use Rattle.mesh_rules.specs.Fit.{IsMeshOf}

-- the opening tree is the least balanced one in which each node that meets a static box of a greater level is inner
abbrev pub OpeningIsLeastTree : Type 0
OpeningIsLeastTree = (p : Problem) → IsLeast p.shape (wanted_by p.shape p.cells (map static_of p.statics)) (opening_tree (settings_of p))

-- the tree that follows a cycle is the least balanced one that holds what the tags leave and ask for, and each leaf changes by at
-- most one level
pub record IsNextTree (p : Problem) (react : List ℕ → Reacted) (s : State) : Type 0 where
  pub least : IsNext p.shape (is_inner s.mesh) (tag_at s.mesh.leaves (tags_of (settings_of p) react s)) (next_tree (settings_of p) s.mesh (tags_of (settings_of p) react s))
  pub near : IsNear p.shape (is_inner s.mesh) (next_tree (settings_of p) s.mesh (tags_of (settings_of p) react s))

abbrev pub NextIsLeastTree : Type 0
NextIsLeastTree = (p : Problem) (react : List ℕ → Reacted) (s : State) → IsMeshOf (settings_of p) s.mesh → IsNextTree p react s

-- each mesh with which a cycle of a run starts stands on a balanced tree of the problem's lattice, with levels below `levels` and few
-- leaves, and has a total for each field in each cell
abbrev pub RunsStandOnTrees : Type 0
RunsStandOnTrees = (p : Problem) (react : List ℕ → Reacted) (cycle : ℕ) (r : Reached) → run (settings_of p) react cycle ≡ running r → IsMeshOf (settings_of p) r.state.mesh
