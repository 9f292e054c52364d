-- The mesh on the next tree.
use Rattle.std.specs.Prelude.{ℕ, ◌-◌, Bool, cond, List, [], map}
use Rattle.std.specs.List.{slice_index_or}
use Rattle.morton_order.specs.declared.space.Loc.{Loc}
use Rattle.block_tree.specs.declared.tags.Tag.{Tag}
use Rattle.block_tree.specs.Tree.{is_listed}
use Rattle.block_tree.specs.Leaves.{inner_of, leaves_of}
use Rattle.block_tree.specs.Next.{next_inner, tag_at}
use Rattle.problem_set.specs.Settings.{Settings}
use Rattle.mesh_rules.specs.Mesh.{Mesh, filled, is_inner, leaf_number}
use Rattle.mesh_rules.specs.Look.{look}

-- the level of the finest inner nodes that a problem allows: one below that of the finest leaves, which is one below the number of levels
abbrev pub finest_inner : Settings → ℕ
finest_inner p = p.levels - 2

-- the next tree of a mesh whose leaves have these tags: the least balanced one that holds what is wanted
abbrev pub next_tree : Settings → Mesh → List Tag → Loc → Bool
next_tree p m tags = next_inner (finest_inner p) m.shape (is_inner m) (tag_at m.leaves tags)

-- a mesh on another tree, which is given by its inner nodes and its leaves: each total is the look on the old mesh
abbrev pub remapped : Mesh → ℕ → List Loc → List Loc → Mesh
remapped m fields inner leaves = filled (record m { inner = inner; leaves = leaves; totals = [] }) fields (look m)

-- the mesh on the tree of a test: 5 and 0 in two cells are seen on the next finer level as 3 2 0 0
abbrev pub remap : Mesh → ℕ → (Loc → Bool) → Mesh
remap m fields inner = remapped m fields (inner_of m.shape inner) (leaves_of m.shape inner)

-- a leaf that stays keeps its counter, a new one begins with none
abbrev pub carried_counter : Mesh → List ℕ → Loc → ℕ
carried_counter m counters l = cond (is_listed m.leaves l) (slice_index_or counters (leaf_number m l) 0) 0

-- the counters of the leaves of the next mesh
abbrev pub carried_counters : Mesh → List ℕ → List Loc → List ℕ
carried_counters m counters leaves = map (carried_counter m counters) leaves
