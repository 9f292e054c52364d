-- Sums over the cells of a mesh.
use Rattle.std.proofs.Common.{◌≡◌, ℕ, ◌+◌, Bool, true, false, cond, not, List, [], ◌∷◌, refl, arith, sym, ◌∙◌}
use Rattle.std.proofs.lemmas.Bool.{and_parts, false≢true}
use Rattle.morton_order.specs.declared.space.Loc.{Loc}
use Rattle.morton_order.specs.Space.{IsIn}
use Rattle.block_tree.specs.Tree.{is_node}
use Rattle.mesh_rules.specs.Sums.{sum_over, sum_to}
use Rattle.mesh_rules.specs.Mesh.{IsMesh, Mesh, OnLeaf, block_of, block_size, cell_at, cell_lattice, is_inner, sum_cells}
use Rattle.mesh_laws.proofs.Adjacent.{block_inside}
use Rattle.mesh_laws.proofs.Grids.{sum_plus, sum_swap, sum_zero}
use Rattle.mesh_laws.proofs.Lattices.{lattice, lattice_same}
use Rattle.mesh_laws.proofs.LeafSums.{cells_by_level, counts, is_leaf}
use Rattle.mesh_laws.proofs.Totals.{sum_to-same}

-- sums over lists
pub over_plus : {X : Type 0} (xs : List X) (g h : X → ℕ) → sum_over xs (λ x. g x + h x) ≡ sum_over xs g + sum_over xs h
over_plus [] g h = refl
over_plus (x ∷ xs) g h = let e = over_plus xs g h in omega arith

pub over_same : {X : Type 0} (xs : List X) (g h : X → ℕ) → ((x : X) → g x ≡ h x) → sum_over xs g ≡ sum_over xs h
over_same [] g h e = refl
over_same (x ∷ xs) g h e = let a = e x in let b = over_same xs g h e in omega arith

pub over_swap : {X : Type 0} (xs : List X) (n : ℕ) (g : X → ℕ → ℕ) → sum_over xs (λ x. sum_to n (g x)) ≡ sum_to n (λ i. sum_over xs (λ x. g x i))
over_swap [] n g = sym (sum_zero n (λ _. 0) (λ i l. refl))
over_swap (x ∷ xs) n g = let e = over_swap xs n g in let f = sum_plus n (g x) (λ i. sum_over xs (λ y. g y i)) in omega arith

-- sums over all cells
pub cells_plus : (m : Mesh) (g h : Loc → ℕ) → sum_cells m (λ c. g c + h c) ≡ sum_cells m g + sum_cells m h
cells_plus m g h =
    over_same m.leaves (λ l. sum_to (block_size m) (λ p. g (cell_at m l p) + h (cell_at m l p))) (λ l. sum_to (block_size m) (λ p. g (cell_at m l p)) + sum_to (block_size m) (λ p. h (cell_at m l p)))
    (λ l. sum_plus (block_size m) (λ p. g (cell_at m l p)) (λ p. h (cell_at m l p)))
    ∙ over_plus m.leaves (λ l. sum_to (block_size m) (λ p. g (cell_at m l p))) (λ l. sum_to (block_size m) (λ p. h (cell_at m l p)))

pub cells_same : (m : Mesh) (g h : Loc → ℕ) → ((c : Loc) → g c ≡ h c) → sum_cells m g ≡ sum_cells m h
cells_same m g h e = over_same m.leaves (λ l. sum_to (block_size m) (λ p. g (cell_at m l p))) (λ l. sum_to (block_size m) (λ p. h (cell_at m l p)))
    (λ l. sum_to-same (block_size m) (λ p. g (cell_at m l p)) (λ p. h (cell_at m l p)) (λ p s. e (cell_at m l p)))

pub cells_axes : (m : Mesh) (n : ℕ) (g : Loc → ℕ → ℕ) → sum_cells m (λ c. sum_to n (g c)) ≡ sum_to n (λ axis. sum_cells m (λ c. g c axis))
cells_axes m n g =
    over_same m.leaves (λ l. sum_to (block_size m) (λ p. sum_to n (g (cell_at m l p)))) (λ l. sum_to n (λ axis. sum_to (block_size m) (λ p. g (cell_at m l p) axis)))
    (λ l. sum_swap (block_size m) n (λ p axis. g (cell_at m l p) axis))
    ∙ over_swap m.leaves n (λ l axis. sum_to (block_size m) (λ p. g (cell_at m l p) axis))

-- what holds of each cell of a leaf
pub leaf_of : (m : Mesh) → IsMesh m → (c : Loc) → IsIn (cell_lattice m) c → is_leaf m.shape (is_inner m) (block_of m c) ≡ true → OnLeaf m c
leaf_of m mesh c inside h =
    let a = and_parts (is_node m.shape (is_inner m) (block_of m c)) (not (is_inner m (block_of m c))) h in
    record { inside = block_inside m mesh c inside; node = a.0; outer = λ i. clash (is_inner m (block_of m c)) i a.1 }
  where
    clash : (b : Bool) → b ≡ true → not b ≡ true → ⊥
    clash true h k = false≢true k
    clash false h k = false≢true h

pub on_leaves : (m : Mesh) → IsMesh m → (g h : Loc → ℕ) → ((c : Loc) → IsIn (cell_lattice m) c → OnLeaf m c → g c ≡ h c) → sum_cells m g ≡ sum_cells m h
on_leaves m mesh g h e =
    cells_by_level m mesh g
    ∙ sum_to-same 11 (λ i. lattice (cell_lattice m) i (counts m g)) (λ i. lattice (cell_lattice m) i (counts m h))
    (λ i l. lattice_same (cell_lattice m) i (counts m g) (counts m h) (omega arith) (λ c inside at. by c inside (is_leaf m.shape (is_inner m) (block_of m c)) refl))
    ∙ sym (cells_by_level m mesh h)
  where
    by : (c : Loc) → IsIn (cell_lattice m) c → (b : Bool) → is_leaf m.shape (is_inner m) (block_of m c) ≡ b → cond b (g c) 0 ≡ cond b (h c) 0
    by c inside true t = e c inside (leaf_of m mesh c inside t)
    by c inside false t = refl
