-- Which mesh the lists of totals by field and leaf are.
use Rattle.std.specs.Prelude.{◌≡◌, ℕ, ◌-◌, ◌<◌, ◌≤◌, ◌^◌, List, [], length, map}
use Rattle.std.specs.List.{slice_index_or}
use Rattle.morton_order.specs.declared.space.Loc.{Loc}
use Rattle.block_tree.specs.Blocks.{TreeOfBlocks, leaves}
use Rattle.problem_set.specs.Settings.{Settings}
use Rattle.mesh_rules.specs.Sums.{table}
use Rattle.mesh_rules.specs.Mesh.{Mesh, block_size, cell_at}
use Rattle.mesh_rules.specs.Fields.{field_count}
use Rattle.mesh_rules.specs.Stage.{stage}
use Rattle.mesh_rules.specs.Fit.{IsMeshOf, sum_of_all}
use Rattle.block_layout.specs.declared.layout.Layout.{Layout}

-- the totals of a field on a leaf, by the numbers of both, in lists by field and leaf
abbrev pub totals_in : List (List (List ℕ)) → ℕ → ℕ → List ℕ
totals_in lists f leaf = slice_index_or (slice_index_or lists f []) leaf []

-- the mesh on a tree with these lists
abbrev pub mesh_of : TreeOfBlocks → List ℕ → List (List (List ℕ)) → Mesh
mesh_of t cells lists = record {
  shape = t.shape;
  cells = cells;
  inner = t.inner;
  leaves = leaves t;
  totals = table (length (leaves t)) (λ leaf. table (length lists) (λ f. totals_in lists f leaf));
}

-- a field's list by leaf of what each cell of a mesh gives
abbrev pub field_list : Mesh → (Loc → ℕ) → List (List ℕ)
field_list m each = map (λ l. table (block_size m) (λ place. each (cell_at m l place))) m.leaves

-- the lists of some fields
abbrev pub field_lists : Mesh → ℕ → (ℕ → Loc → ℕ) → List (List (List ℕ))
field_lists m fields each = table fields (λ f. field_list m (each f))

-- lists have a list for each leaf and field, and are a mesh of a problem, whose totals add up to less than 2^62
pub record IsMeshIn (p : Settings) (t : TreeOfBlocks) (l : Layout) (lists : List (List (List ℕ))) : Type 0 where
  pub dims : l.dims ≡ p.shape.dims
  pub cells : l.cells ≡ p.cells
  pub fields : length lists ≡ field_count p
  pub leaf_lists : (f : ℕ) → f < field_count p → length (slice_index_or lists f []) ≡ length (leaves t)
  pub mesh : IsMeshOf p (mesh_of t p.cells lists)
  pub bound : sum_of_all p (mesh_of t p.cells lists) ≤ 2 ^ 62 - 1

-- so it is of a mesh from which a stage starts, and of the mesh after the stage
pub record CanStage (p : Settings) (t : TreeOfBlocks) (l : Layout) (lists : List (List (List ℕ))) : Type 0 where
  pub now : IsMeshIn p t l lists
  pub next : sum_of_all p (stage p (mesh_of t p.cells lists)) ≤ 2 ^ 62 - 1
