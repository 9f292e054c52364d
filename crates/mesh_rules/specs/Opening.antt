-- Where a problem's run starts.
use Rattle.std.specs.Prelude.{◌==◌, ℕ, Bool, cond, ◌&&◌, nat_le, [], length, map, replicate, slice_index}
use Rattle.std.specs.List.{list_all, range_with_len}
use Rattle.morton_order.specs.declared.space.Loc.{Loc}
use Rattle.morton_order.specs.Space.{axis_of}
use Rattle.block_tree.specs.declared.boxes.StaticBox.{StaticBox}
use Rattle.block_tree.specs.Leaves.{roots}
use Rattle.block_tree.specs.Least.{opening}
use Rattle.problem_set.specs.Settings.{Settings}
use Rattle.deck_entries.specs.declared.entries.StartBox.{StartBox}
use Rattle.deck_entries.specs.declared.entries.StaticAt.{StaticAt}
use Rattle.mesh_rules.specs.Sums.{sum_over}
use Rattle.mesh_rules.specs.Mesh.{Mesh, filled}
use Rattle.mesh_rules.specs.Fields.{field_count}
use Rattle.mesh_rules.specs.Remesh.{finest_inner, remap}
use Rattle.mesh_rules.specs.Mask.{kept_at_start}
use Rattle.mesh_rules.specs.Cycle.{State}

-- the root cells that a problem refines from the start, and to which level
abbrev pub static_of : StaticAt → StaticBox
static_of s = record { level = s.level; lo = s.lo; hi = s.hi }

-- the tree at the start: the least balanced one that holds what the static boxes want
abbrev pub opening_tree : Settings → Loc → Bool
opening_tree p = opening (finest_inner p) p.shape p.cells (map static_of p.statics)

-- whether a box holds a root cell
abbrev pub holds : StartBox → Loc → Bool
holds b c = list_all (λ axis. nat_le (slice_index b.lo axis) (axis_of c axis) && nat_le (axis_of c axis) (slice_index b.hi axis)) (range_with_len 0 3)

-- a root cell's total of a field at the start: the sum of the amounts of the boxes that hold it
abbrev pub opening_total : Settings → ℕ → Loc → ℕ
opening_total p f c = sum_over p.boxes (λ (b : StartBox). cond (b.field == f && holds b c) b.amount 0)

-- the mesh of root blocks at the start
abbrev pub root_mesh : Settings → Mesh
root_mesh p = filled (record { shape = p.shape; cells = p.cells; inner = []; leaves = roots p.shape; totals = [] }) (field_count p) (opening_total p)

-- the mesh at the start: on the opening tree, the looks on the root blocks
abbrev pub opening_mesh : Settings → Mesh
opening_mesh p = remap (root_mesh p) (field_count p) (opening_tree p)

-- the state at the start
abbrev pub opening_state : Settings → State
opening_state p =
    let mesh = opening_mesh p in
    record { mesh = mesh; mask = kept_at_start p mesh; counters = replicate (length mesh.leaves) 0 }
