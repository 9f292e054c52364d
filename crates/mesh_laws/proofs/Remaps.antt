-- A sum over the cells of any tree, of what adds up over children, is that over the root cells; so a remap keeps each field's total.
use Rattle.std.proofs.Common.{◌≡◌, inl, inr, ℕ, zero, suc, ◌+◌, ◌≤◌, Bool, true, false, cond, not, ◌&&◌, ◌||◌, List, [], refl, arith, ap, sym, ◌∙◌, add-one}
use Rattle.std.proofs.lemmas.Bool.{cases_eq, false≢true, ne_eqb}
use Rattle.morton_order.specs.declared.space.Loc.{Loc}
use Rattle.morton_order.specs.declared.space.Shape.{Shape}
use Rattle.morton_order.specs.Space.{IsShape, child, parent, parts}
use Rattle.block_tree.specs.Tree.{IsTree, is_node}
use Rattle.block_tree.specs.Leaves.{inner_of, leaves_of}
use Rattle.block_tree.proofs.Ancestors.{parent_node, root_node}
use Rattle.block_tree.proofs.Behinds.{fails}
use Rattle.mesh_rules.specs.Sums.{sum_over, sum_to}
use Rattle.mesh_rules.specs.Mesh.{IsMesh, Mesh, block_of, cell_lattice, is_inner, stored, sum_on, total_of}
use Rattle.mesh_rules.specs.Look.{look}
use Rattle.mesh_laws.specs.RemapLaws.{RemapKeepsTotals}
use Rattle.mesh_laws.proofs.Cells.{on_leaves}
use Rattle.mesh_laws.proofs.Fillings.{HasCells, filled_sum}
use Rattle.mesh_laws.proofs.Lattices.{finer_lattice, lattice, lattice_nothing, lattice_plus, lattice_same}
use Rattle.mesh_laws.proofs.LeafSums.{cells_on_tree, is_leaf}
use Rattle.mesh_laws.proofs.Looks.{block_child, children_add_up, look_law}
use Rattle.mesh_laws.proofs.Totals.{sum_to-same}

-- what a cell has is what its children have
abbrev pub AddsUp : Mesh → (Loc → ℕ) → Type 0
AddsUp m g = (c : Loc) → sum_to (parts m.shape.dims) (λ j. g (child m.shape.dims c j)) ≡ g c

-- what a cell counts in a node, on a leaf, and in an inner node
abbrev in_node : Mesh → (Loc → Bool) → (Loc → ℕ) → Loc → ℕ
in_node m inner g c = cond (is_node m.shape inner (block_of m c)) (g c) 0

abbrev on_leaf : Mesh → (Loc → Bool) → (Loc → ℕ) → Loc → ℕ
on_leaf m inner g c = cond (is_leaf m.shape inner (block_of m c)) (g c) 0

abbrev in_inner : Mesh → (Loc → Bool) → (Loc → ℕ) → Loc → ℕ
in_inner m inner g c = cond (inner (block_of m c)) (g c) 0

-- an inner node of a tree is a node
tree_node : (s : Shape) (inner : Loc → Bool) → IsTree s inner → (l : Loc) → inner l ≡ true → is_node s inner l ≡ true
tree_node s inner tree l h = elim (cases_eq l.level 0) [
  | inl root ↦ root_node s inner l root
  | inr deep ↦ parent_node s inner l (tree.closed l h (omega arith))
]

two_kinds : (node inner : Bool) (v : ℕ) → (inner ≡ true → node ≡ true) → cond node v 0 ≡ cond (node && not inner) v 0 + cond inner v 0
two_kinds true true v h = omega arith
two_kinds true false v h = omega arith
two_kinds false true v h = absurd (false≢true (h refl))
two_kinds false false v h = refl

-- on a level the cells in nodes lie on leaves or in inner nodes
level_kinds : (m : Mesh) (inner : Loc → Bool) → IsTree m.shape inner → (g : Loc → ℕ) (level : ℕ) → level ≤ 10 →
    lattice (cell_lattice m) level (in_node m inner g) ≡ lattice (cell_lattice m) level (on_leaf m inner g) + lattice (cell_lattice m) level (in_inner m inner g)
level_kinds m inner tree g level few =
    lattice_same (cell_lattice m) level (in_node m inner g) (λ c. on_leaf m inner g c + in_inner m inner g c) few
    (λ c inside at. two_kinds (is_node m.shape inner (block_of m c)) (inner (block_of m c)) (g c) (tree_node m.shape inner tree (block_of m c)))
    ∙ lattice_plus (cell_lattice m) level (on_leaf m inner g) (in_inner m inner g)

-- the cells in nodes of a finer level are the children of those in inner nodes
finer_nodes : (m : Mesh) (inner : Loc → Bool) → IsShape m.shape → (g : Loc → ℕ) → AddsUp m g → (level : ℕ) → level ≤ 10 →
    lattice (cell_lattice m) level (in_inner m inner g) ≡ lattice (cell_lattice m) (suc level) (in_node m inner g)
finer_nodes m inner shape g adds level few =
    lattice_same (cell_lattice m) level (in_inner m inner g) (λ c. sum_to (parts m.shape.dims) (λ j. in_node m inner g (child m.shape.dims c j))) few
    (λ c inside at. by c (inner (block_of m c)) refl)
    ∙ finer_lattice (cell_lattice m) shape.least shape.most level (in_node m inner g)
    ∙ ap (λ v. lattice (cell_lattice m) v (in_node m inner g)) (add-one level)
  where
    child_is : (c : Loc) (j : ℕ) → is_node m.shape inner (block_of m (child m.shape.dims c j)) ≡ inner (block_of m c)
    child_is c j = let deep : c.level + 1 ≡ 0 → ⊥ = λ e. omega arith in
        ap (λ (b : Bool). b || inner (parent m.shape.dims (block_of m (child m.shape.dims c j)))) (ne_eqb (c.level + 1) 0 deep) ∙ ap inner (block_child m c j)

    nothing : (n : ℕ) → sum_to n (λ _. 0) ≡ 0
    nothing zero = refl
    nothing (suc n) = let e = nothing n in omega arith

    by : (c : Loc) (b : Bool) → inner (block_of m c) ≡ b → cond b (g c) 0 ≡ sum_to (parts m.shape.dims) (λ j. in_node m inner g (child m.shape.dims c j))
    by c true h = sym (sum_to-same (parts m.shape.dims) (λ j. in_node m inner g (child m.shape.dims c j)) (λ j. g (child m.shape.dims c j))
        (λ j l. ap (λ (b : Bool). cond b (g (child m.shape.dims c j)) 0) (child_is c j ∙ h)) ∙ adds c)
    by c false h = sym (sum_to-same (parts m.shape.dims) (λ j. in_node m inner g (child m.shape.dims c j)) (λ _. 0)
        (λ j l. ap (λ (b : Bool). cond b (g (child m.shape.dims c j)) 0) (child_is c j ∙ h)) ∙ nothing (parts m.shape.dims))

-- the leaves down to a level, and what lies below it, are the roots
leaves_to : (m : Mesh) (inner : Loc → Bool) → IsShape m.shape → IsTree m.shape inner → (g : Loc → ℕ) → AddsUp m g → (n : ℕ) → n ≤ 11 →
    sum_to n (λ i. lattice (cell_lattice m) i (on_leaf m inner g)) + lattice (cell_lattice m) n (in_node m inner g) ≡ lattice (cell_lattice m) 0 (in_node m inner g)
leaves_to m inner shape tree g adds zero few = omega arith
leaves_to m inner shape tree g adds (suc n) few =
    let before = leaves_to m inner shape tree g adds n (omega arith) in
    let kinds = level_kinds m inner tree g n (omega arith) in
    let finer = finer_nodes m inner shape g adds n (omega arith) in
    omega arith

-- no node is finer than the finest level
none_finer : (m : Mesh) (inner : Loc → Bool) → IsShape m.shape → IsTree m.shape inner → (g : Loc → ℕ) → AddsUp m g → lattice (cell_lattice m) 11 (in_node m inner g) ≡ 0
none_finer m inner shape tree g adds =
    sym (finer_nodes m inner shape g adds 10 (omega arith))
    ∙ lattice_same (cell_lattice m) 10 (in_inner m inner g) (λ c. 0) (omega arith)
    (λ c inside at. ap (λ (b : Bool). cond b (g c) 0) (fails (inner (block_of m c)) (λ h. let a = tree.above_finest (block_of m c) h in omega arith)))
    ∙ lattice_nothing (cell_lattice m) 10

-- the sum over all cells of the leaves of a tree is that over the root cells
pub sum_is_roots : (m : Mesh) → HasCells m → IsShape m.shape → (inner : Loc → Bool) → IsTree m.shape inner → (g : Loc → ℕ) → AddsUp m g →
    sum_over (leaves_of m.shape inner) (λ l. sum_on m l g) ≡ lattice (cell_lattice m) 0 g
sum_is_roots m some shape inner tree g adds =
    let all = leaves_to m inner shape tree g adds 11 (omega arith) in
    let none = none_finer m inner shape tree g adds in
    let roots = lattice_same (cell_lattice m) 0 (in_node m inner g) g (omega arith) (λ c inside at. ap (λ (b : Bool). cond b (g c) 0) (root_node m.shape inner (block_of m c) at)) in
    let levels = cells_on_tree m some shape inner tree g in
    omega arith

pub looks_add : (m : Mesh) (f : ℕ) → IsMesh m → AddsUp m (look m f)
looks_add m f mesh c = children_add_up m f c mesh

-- a field's total is the sum of the looks on the root cells
pub total_is_roots : (m : Mesh) (f : ℕ) → IsMesh m → total_of m f ≡ lattice (cell_lattice m) 0 (look m f)
total_is_roots m f mesh =
    on_leaves m mesh (stored m f) (look m f) (λ c inside leaf. sym ((look_law m f c mesh).at_leaf leaf))
    ∙ ap (λ (v : List Loc). sum_over v (λ l. sum_on m l (look m f))) mesh.leaves
    ∙ sum_is_roots m mesh.some_cells mesh.shape (is_inner m) mesh.tree (look m f) (looks_add m f mesh)

pub remap_keeps_totals : RemapKeepsTotals
remap_keeps_totals m fields f inner mesh tree some =
    filled_sum (record m { inner = inner_of m.shape inner; leaves = leaves_of m.shape inner; totals = [] }) mesh.some_cells fields f (look m) some
    ∙ sum_is_roots m mesh.some_cells mesh.shape inner tree (look m f) (looks_add m f mesh)
    ∙ sym (total_is_roots m f mesh)
