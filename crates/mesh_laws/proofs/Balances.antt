-- What passes the low sides of all cells from within the mesh is what passes their high sides.
use Rattle.std.proofs.Common.{◌≡◌, inl, inr, ℕ, suc, ◌+◌, ◌<◌, ◌≤◌, Bool, true, false, cond, not, ◌&&◌, ◌||◌, Option, Some, None, refl, arith, ap, sym, ◌∙◌, add-one}
use Rattle.std.proofs.lemmas.Bool.{cases_eq, false≢true, ne_eqb}
use Rattle.morton_order.specs.declared.space.Loc.{Loc}
use Rattle.morton_order.specs.declared.space.Shape.{Shape}
use Rattle.morton_order.specs.Space.{IsIn, axis_of, child, child_number, parent, parts}
use Rattle.morton_order.specs.Neighbours.{across}
use Rattle.morton_order.proofs.Crossing.{across-half, across-parent, across-sibling, across-touches, crossed_level}
use Rattle.morton_order.proofs.Family.{parent-child, parent_inside}
use Rattle.block_tree.specs.Tree.{is_node}
use Rattle.block_tree.specs.Behind.{children_at, is_high_half}
use Rattle.block_tree.proofs.Ancestors.{half-is, parent_node, parity, parity_other, root_node}
use Rattle.block_tree.proofs.Behinds.{fails, half_passes, number_of_child}
use Rattle.mesh_rules.specs.Sums.{sum_over, sum_to}
use Rattle.mesh_rules.specs.Mesh.{IsMesh, Mesh, block_of, cell_lattice, is_inner, sum_cells}
use Rattle.mesh_rules.specs.Faces.{cell_across}
use Rattle.mesh_laws.proofs.Adjacent.{block_inside, blocks_touch}
use Rattle.mesh_laws.proofs.Grids.{at_option, sum_first, sum_plus}
use Rattle.mesh_laws.proofs.Lattices.{crossings, finer_lattice, lattice, lattice_nothing, lattice_plus, lattice_same}
use Rattle.mesh_laws.proofs.LeafSums.{cells_by_level, counts, is_leaf}
use Rattle.mesh_laws.proofs.Looks.{block_parent}
use Rattle.mesh_laws.proofs.Totals.{sum_to-same}
use Rattle.mesh_laws.proofs.Conditions.{at_plus, at_same, cond_at, cond_plus, cond_swap, crossing_tests, passing_sum, under, under_option, zero_at, zero_under}

-- what passes a side of a cell towards a cell, by what passes each cell's own face at a side, where that cell lies on a leaf of the
-- same level, on a coarser one, and where there are finer ones
abbrev same_part : (Bool → Loc → ℕ) → Mesh → Bool → Loc → Loc → ℕ
same_part own m high c o = cond (is_leaf m.shape (is_inner m) (block_of m o)) (own high c) 0

abbrev coarse_part : (Bool → Loc → ℕ) → Mesh → Bool → Loc → Loc → ℕ
coarse_part own m high c o = cond (is_node m.shape (is_inner m) (block_of m o)) 0 (own high c)

abbrev pub fine_sum : (Bool → Loc → ℕ) → Mesh → ℕ → Bool → Loc → ℕ
fine_sum own m axis high o = sum_over (children_at m.shape.dims axis (not high)) (λ j. own (not high) (child m.shape.dims o j))

abbrev fine_part : (Bool → Loc → ℕ) → Mesh → ℕ → Bool → Loc → Loc → ℕ
fine_part own m axis high c o = cond (is_inner m (block_of m o)) (fine_sum own m axis high o) 0

-- what passes a side of a cell from within the mesh: the sum over the finer cells' own faces, or the cell's own
abbrev pub interior : (Bool → Loc → ℕ) → Mesh → ℕ → Bool → Loc → ℕ
interior own m axis high c = at_option (cell_across m c axis high) (λ o. cond (is_inner m (block_of m o)) (fine_sum own m axis high o) (own high c))

-- both cells at a face see the same pass it
abbrev pub IsMirrored : (Bool → Loc → ℕ) → Mesh → ℕ → Type 0
IsMirrored own m axis = (c o : Loc) → IsIn (cell_lattice m) o → cell_across m o axis false ≡ Some c → own true c ≡ own false o

-- the three parts
three_parts : (own : Bool → Loc → ℕ) (m : Mesh) (axis : ℕ) (high : Bool) (c o : Loc) → (inner node : Bool) → (inner ≡ true → node ≡ true) →
    cond inner (fine_sum own m axis high o) (own high c)
    ≡ cond (node && not inner) (own high c) 0 + cond node 0 (own high c) + cond inner (fine_sum own m axis high o) 0
three_parts own m axis high c o true true h = omega arith
three_parts own m axis high c o true false h = absurd (false≢true (h refl))
three_parts own m axis high c o false true h = omega arith
three_parts own m axis high c o false false h = omega arith

-- an inner block is a node
inner_is_node : (m : Mesh) → IsMesh m → (l : Loc) → is_inner m l ≡ true → is_node m.shape (is_inner m) l ≡ true
inner_is_node m mesh l h = elim (cases_eq l.level 0) [
  | inl root ↦ root_node m.shape (is_inner m) l root
  | inr deep ↦ parent_node m.shape (is_inner m) l (mesh.tree.closed l h (omega arith))
]

-- a side's parts on a level
abbrev part_on : (Loc → Loc → ℕ) → Mesh → ℕ → Bool → ℕ → ℕ
part_on part m axis high level = lattice (cell_lattice m) level (counts m (λ c. at_option (cell_across m c axis high) (part c)))

-- a level's interior flux in three parts
level_parts : (own : Bool → Loc → ℕ) (m : Mesh) → IsMesh m → (axis : ℕ) (high : Bool) (level : ℕ) → level ≤ 10 →
    lattice (cell_lattice m) level (counts m (interior own m axis high))
    ≡ part_on (same_part own m high) m axis high level + part_on (coarse_part own m high) m axis high level + part_on (fine_part own m axis high) m axis high level
level_parts own m mesh axis high level few =
    lattice_same (cell_lattice m) level (counts m (interior own m axis high)) (λ c. (counts m (at (same_part own m high)) c + counts m (at (coarse_part own m high)) c) + counts m (at (fine_part own m axis high)) c) few (λ c inside on. each c)
    ∙ lattice_plus (cell_lattice m) level (λ c. counts m (at (same_part own m high)) c + counts m (at (coarse_part own m high)) c) (counts m (at (fine_part own m axis high)))
    ∙ ap (λ v. v + part_on (fine_part own m axis high) m axis high level) (lattice_plus (cell_lattice m) level (counts m (at (same_part own m high))) (counts m (at (coarse_part own m high))))
  where
    at : (Loc → Loc → ℕ) → Loc → ℕ
    at part c = at_option (cell_across m c axis high) (part c)

    each : (c : Loc) → counts m (interior own m axis high) c ≡ (counts m (at (same_part own m high)) c + counts m (at (coarse_part own m high)) c) + counts m (at (fine_part own m axis high)) c
    each c =
        let o : Option Loc = cell_across m c axis high in
        let s : Loc → ℕ = at (same_part own m high) in
        let t : Loc → ℕ = at (coarse_part own m high) in
        let u : Loc → ℕ = at (fine_part own m axis high) in
        let split : interior own m axis high c ≡ (s c + t c) + u c =
        at_same o (λ x. cond (is_inner m (block_of m x)) (fine_sum own m axis high x) (own high c))
        (λ x. (same_part own m high c x + coarse_part own m high c x) + fine_part own m axis high c x)
        (λ x is. three_parts own m axis high c x (is_inner m (block_of m x)) (is_node m.shape (is_inner m) (block_of m x)) (inner_is_node m mesh (block_of m x)))
        ∙ at_plus o (λ x. same_part own m high c x + coarse_part own m high c x) (fine_part own m axis high c)
        ∙ ap (λ v. v + u c) (at_plus o (same_part own m high c) (coarse_part own m high c)) in
        let b : Bool = is_leaf m.shape (is_inner m) (block_of m c) in
        ap (λ v. cond b v 0) split ∙ cond_plus b (s c + t c) (u c) ∙ ap (λ v. v + cond b (u c) 0) (cond_plus b (s c) (t c))

-- a crossing between cells of one level, seen from either side
same_sides : (own : Bool → Loc → ℕ) (m : Mesh) (axis : ℕ) → IsMirrored own m axis → (level : ℕ) → axis < 3 → level ≤ 10 →
    part_on (same_part own m true) m axis true level ≡ part_on (same_part own m false) m axis false level
same_sides own m axis mirrored level used few =
    let s : Shape = cell_lattice m in
    let leaf : Loc → Bool = λ c. is_leaf m.shape (is_inner m) (block_of m c) in
    lattice_same s level (counts m (λ c. at_option (across s c axis true) (same_part own m true c))) (λ c. at_option (across s c axis true) (λ o. cond (leaf c) (same_part own m true c o) 0)) few
    (λ c inside on. cond_at (leaf c) (across s c axis true) (same_part own m true c))
    ∙ crossings s level axis (λ c o. cond (leaf c) (same_part own m true c o) 0) used few
    ∙ lattice_same s level (λ o. at_option (across s o axis false) (λ c. cond (leaf c) (same_part own m true c o) 0)) (counts m (λ o. at_option (across s o axis false) (same_part own m false o))) few
    (λ o inside on. at_same (across s o axis false) (λ c. cond (leaf c) (same_part own m true c o) 0) (λ c. cond (leaf o) (same_part own m false o c) 0)
    (λ c meet. cond_swap (leaf c) (leaf o) (own true c)
    ∙ ap (λ v. cond (leaf o) (cond (leaf c) v 0) 0) (mirrored c o inside meet))
    ∙ sym (cond_at (leaf o) (across s o axis false) (same_part own m false o)))

-- crossings, from a side
crossed_from : (s : Shape) (level axis : ℕ) (high : Bool) (g : Loc → Loc → ℕ) → axis < 3 → level ≤ 10 → lattice s level (λ c. at_option (across s c axis high) (g c)) ≡ lattice s level (λ o. at_option (across s o axis (not high)) (λ c. g c o))
crossed_from s level axis true g used few = crossings s level axis g used few
crossed_from s level axis false g used few = sym (crossings s level axis (λ o c. g c o) used few)

-- whether a cell is the half of its parent at a side
abbrev is_at : Mesh → ℕ → Bool → ℕ → Bool
is_at m axis side j = cond side (is_high_half j axis) (not (is_high_half j axis))

-- what a finer cell counts where it is at the side behind which its parent has a leaf, and its parent lies in an inner node
abbrev finer_counts : (Bool → Loc → ℕ) → Mesh → ℕ → Bool → Loc → ℕ
finer_counts own m axis side d = at_option (cell_across m (parent m.shape.dims d) axis side) (λ c.
    cond (is_leaf m.shape (is_inner m) (block_of m c)) (cond (is_inner m (block_of m (parent m.shape.dims d))) (cond (is_at m axis side (child_number m.shape.dims d)) (own side d) 0) 0) 0)

children_count : (own : Bool → Loc → ℕ) (m : Mesh) → IsMesh m → (axis : ℕ) (high : Bool) (o : Loc) →
    at_option (cell_across m o axis (not high)) (λ c. cond (is_leaf m.shape (is_inner m) (block_of m c)) (fine_part own m axis high c o) 0)
    ≡ sum_to (parts m.shape.dims) (λ j. finer_counts own m axis (not high) (child m.shape.dims o j))
children_count own m mesh axis high o =
    let dims : ℕ = m.shape.dims in
    let n : ℕ = parts dims in
    let side : Bool = not high in
    let x : Option Loc = cell_across m o axis side in
    let leaf : Loc → Bool = λ c. is_leaf m.shape (is_inner m) (block_of m c) in
    let flux_of : ℕ → ℕ = λ j. own side (child dims o j) in
    let term : Loc → ℕ → ℕ = λ c j. cond (leaf c) (cond (is_inner m (block_of m o)) (cond (is_at m axis side j) (flux_of j) 0) 0) 0 in
    at_same x (λ c. cond (leaf c) (fine_part own m axis high c o) 0) (λ c. sum_to n (term c))
    (λ c meet. ap (λ v. cond (leaf c) (cond (is_inner m (block_of m o)) v 0) 0) (passing_sum (is_at m axis side) flux_of n)
    ∙ ap (λ v. cond (leaf c) v 0) (under n (is_inner m (block_of m o)) (λ j. cond (is_at m axis side j) (flux_of j) 0))
    ∙ under n (leaf c) (λ j. cond (is_inner m (block_of m o)) (cond (is_at m axis side j) (flux_of j) 0) 0))
    ∙ under_option n x term
    ∙ sum_to-same n (λ j. at_option x (λ c. term c j)) (λ j. finer_counts own m axis side (child dims o j)) (λ j l. sym (each j l))
  where
    each : (j : ℕ) → j < parts m.shape.dims → finer_counts own m axis (not high) (child m.shape.dims o j)
        ≡ at_option (cell_across m o axis (not high)) (λ c. cond (is_leaf m.shape (is_inner m) (block_of m c)) (cond (is_inner m (block_of m o)) (cond (is_at m axis (not high) j) (own (not high) (child m.shape.dims o j)) 0) 0) 0)
    each j l =
        ap (λ (v : Loc). at_option (cell_across m v axis (not high)) (λ c. cond (is_leaf m.shape (is_inner m) (block_of m c)) (cond (is_inner m (block_of m v)) (cond (is_at m axis (not high) (child_number m.shape.dims (child m.shape.dims o j))) (own (not high) (child m.shape.dims o j)) 0) 0) 0)) (parent-child m.shape.dims o j)
        ∙ ap (λ v. at_option (cell_across m o axis (not high)) (λ c. cond (is_leaf m.shape (is_inner m) (block_of m c)) (cond (is_inner m (block_of m o)) (cond (is_at m axis (not high) v) (own (not high) (child m.shape.dims o j)) 0) 0) 0)) (number_of_child m.shape.dims o j mesh.shape.most mesh.shape.least l)

half_false : (h side : Bool) → cond side h (not h) ≡ false → h ≡ not side
half_false true true e = e
half_false false true e = refl
half_false true false e = refl
half_false false false e = sym e

-- a location that is no root is a node where its parent is inner
node_is : (m : Mesh) (l : Loc) → 1 ≤ l.level → is_node m.shape (is_inner m) l ≡ is_inner m (parent m.shape.dims l)
node_is m l h = ap (λ (b : Bool). b || is_inner m (parent m.shape.dims l)) (ne_eqb l.level 0 (λ e. omega arith))

-- a cell that crosses a side
record Crosses (m : Mesh) (axis : ℕ) (side : Bool) (d : Loc) : Type 0 where
  mesh : IsMesh m
  used : axis < m.shape.dims
  inside : IsIn (cell_lattice m) d
  deep : 1 ≤ d.level

-- from the half at the side
outer_counts : (own : Bool → Loc → ℕ) (m : Mesh) (axis : ℕ) (side : Bool) (d e : Loc) → Crosses m axis side d → cell_across m d axis side ≡ Some e → is_high_half (child_number m.shape.dims d) axis ≡ side →
    at_option (cell_across m (parent m.shape.dims d) axis side) (λ c. cond (is_leaf m.shape (is_inner m) (block_of m c)) (cond (is_inner m (block_of m (parent m.shape.dims d))) (cond true (own side d) 0) 0) 0)
    ≡ cond (is_leaf m.shape (is_inner m) (block_of m d)) (coarse_part own m side d e) 0
outer_counts own m axis side d e x meet half =
    let s : Shape = cell_lattice m in
    let dims : ℕ = m.shape.dims in
    let least = x.mesh.shape.least in
    let most = x.mesh.shape.most in
    let deep = x.deep in
    let level = crossed_level s d axis side e meet in
    let p = parity (axis_of d axis) side (sym (half-is dims d axis least most x.used) ∙ half) in
    let up = across-parent s most d e axis side x.used x.inside deep p meet in
    let touch = across-touches s d e axis side x.inside (omega arith) meet in
    let touch_up = across-touches s (parent dims d) (parent dims e) axis side (parent_inside s d x.inside deep) (omega arith) up.0 in
    let bd : Loc = block_of m d in
    let be : Loc = block_of m e in
    let pd : Loc = block_of m (parent dims d) in
    let pe : Loc = block_of m (parent dims e) in
    let node_d : is_node m.shape (is_inner m) bd ≡ is_inner m pd = node_is m bd deep ∙ ap (is_inner m) (sym (block_parent m d)) in
    let node_e : is_node m.shape (is_inner m) be ≡ is_inner m pe = node_is m be (omega arith) ∙ ap (is_inner m) (sym (block_parent m e)) in
    let balanced_e : is_inner m bd ≡ true → is_inner m pe ≡ true = λ h. sym node_e ∙ x.mesh.balanced bd be h (block_inside m x.mesh e touch.inside) (blocks_touch m x.mesh d e touch.touching) in
    let balanced_pe : is_inner m pd ≡ true → is_node m.shape (is_inner m) pe ≡ true = λ h. x.mesh.balanced pd pe h (block_inside m x.mesh (parent dims e) touch_up.inside) (blocks_touch m x.mesh (parent dims d) (parent dims e) touch_up.touching) in
    let value : ℕ = own side d in
    ap (λ (v : Option Loc). at_option v (λ c. cond (is_leaf m.shape (is_inner m) (block_of m c)) (cond (is_inner m pd) (own side d) 0) 0)) up.0
    ∙ crossing_tests (is_node m.shape (is_inner m) pe) (is_inner m pe) (is_inner m pd) (is_inner m bd) value balanced_e balanced_pe
    ∙ ap (λ (b : Bool). cond (b && not (is_inner m bd)) (cond (is_inner m pe) 0 value) 0) (sym node_d)
    ∙ ap (λ (b : Bool). cond (is_leaf m.shape (is_inner m) bd) (cond b 0 value) 0) (sym node_e)

-- from the other half
inner_counts : (own : Bool → Loc → ℕ) (m : Mesh) (axis : ℕ) (side : Bool) (d e : Loc) → Crosses m axis side d → cell_across m d axis side ≡ Some e → is_high_half (child_number m.shape.dims d) axis ≡ not side →
    cond (is_leaf m.shape (is_inner m) (block_of m d)) (coarse_part own m side d e) 0 ≡ 0
inner_counts own m axis side d e x meet half =
    let s : Shape = cell_lattice m in
    let dims : ℕ = m.shape.dims in
    let least = x.mesh.shape.least in
    let most = x.mesh.shape.most in
    let deep = x.deep in
    let level = crossed_level s d axis side e meet in
    let p = parity_other (axis_of d axis) side (sym (half-is dims d axis least most x.used) ∙ half) in
    let (o, crosses, siblings) = across-sibling s most d axis side x.used x.inside deep p in
    let is : o ≡ e = some_is o e (sym crosses ∙ meet) in
    let parents : parent dims e ≡ parent dims d = ap (parent dims) (sym is) ∙ siblings in
    let bd : Loc = block_of m d in
    let be : Loc = block_of m e in
    let node_d = node_is m bd deep in
    let nodes : is_node m.shape (is_inner m) be ≡ is_node m.shape (is_inner m) bd =
    node_is m be (omega arith) ∙ ap (is_inner m) (sym (block_parent m e) ∙ ap (block_of m) parents ∙ block_parent m d) ∙ sym node_d in
    let value : ℕ = own side d in
    ap (λ (b : Bool). cond (is_leaf m.shape (is_inner m) bd) (cond b 0 value) 0) nodes ∙ none (is_node m.shape (is_inner m) bd) (is_inner m bd) value
  where
    some_is : (x y : Loc) → Some x ≡ Some y → x ≡ y
    some_is x y h = cc

    none : (n i : Bool) (v : ℕ) → cond (n && not i) (cond n 0 v) 0 ≡ 0
    none true true v = refl
    none true false v = refl
    none false i v = refl

-- what a finer cell counts is what it counts as a leaf beside a coarser one
finer_is_coarser : (own : Bool → Loc → ℕ) (m : Mesh) (axis : ℕ) (side : Bool) (d : Loc) → Crosses m axis side d →
    finer_counts own m axis side d ≡ counts m (λ x. at_option (cell_across m x axis side) (coarse_part own m side x)) d
finer_is_coarser own m axis side d x = by (cell_across m d axis side) refl (is_at m axis side (child_number m.shape.dims d)) refl
  where
    leaf : Loc → Bool
    leaf c = is_leaf m.shape (is_inner m) (block_of m c)

    up : Option Loc
    up = cell_across m (parent m.shape.dims d) axis side

    none_beyond : is_at m axis side (child_number m.shape.dims d) ≡ true → cell_across m d axis side ≡ None → (o : Option Loc) → cell_across m (parent m.shape.dims d) axis side ≡ o → up ≡ None
    none_beyond h none None e = e
    none_beyond h none (Some c) e =
        let half = half_passes (is_high_half (child_number m.shape.dims d) axis) side h in
        let p = parity (axis_of d axis) side (sym (half-is m.shape.dims d axis x.mesh.shape.least x.mesh.shape.most x.used) ∙ half) in
        let (y, crosses, top) = across-half (cell_lattice m) x.mesh.shape.most d c axis side x.used x.inside x.deep p e in
        absurd (clash y (sym none ∙ crosses))
      where
        clash : (y : Loc) → None ≡ Some y → ⊥
        clash y h = cc

    by : (o : Option Loc) → cell_across m d axis side ≡ o → (b : Bool) → is_at m axis side (child_number m.shape.dims d) ≡ b →
        finer_counts own m axis side d ≡ counts m (λ x. at_option (cell_across m x axis side) (coarse_part own m side x)) d
    by None meet true half =
        ap (λ (v : Option Loc). at_option v (λ c. cond (leaf c) (cond (is_inner m (block_of m (parent m.shape.dims d))) (cond (is_at m axis side (child_number m.shape.dims d)) (own side d) 0) 0) 0)) (none_beyond half meet up refl)
        ∙ sym (ap (λ (v : Option Loc). cond (leaf d) (at_option v (coarse_part own m side d)) 0) meet ∙ zero_under (leaf d) 0 refl)
    by None meet false half =
        ap (λ (b : Bool). at_option up (λ c. cond (leaf c) (cond (is_inner m (block_of m (parent m.shape.dims d))) (cond b (own side d) 0) 0) 0)) half
        ∙ zero_at up leaf (is_inner m (block_of m (parent m.shape.dims d))) (own side d)
        ∙ sym (ap (λ (v : Option Loc). cond (leaf d) (at_option v (coarse_part own m side d)) 0) meet ∙ zero_under (leaf d) 0 refl)
    by (Some e) meet true half =
        ap (λ (b : Bool). at_option up (λ c. cond (leaf c) (cond (is_inner m (block_of m (parent m.shape.dims d))) (cond b (own side d) 0) 0) 0)) half
        ∙ outer_counts own m axis side d e x meet (half_passes (is_high_half (child_number m.shape.dims d) axis) side half)
        ∙ sym (ap (λ (v : Option Loc). cond (leaf d) (at_option v (coarse_part own m side d)) 0) meet)
    by (Some e) meet false half =
        ap (λ (b : Bool). at_option up (λ c. cond (leaf c) (cond (is_inner m (block_of m (parent m.shape.dims d))) (cond b (own side d) 0) 0) 0)) half
        ∙ zero_at up leaf (is_inner m (block_of m (parent m.shape.dims d))) (own side d)
        ∙ sym (ap (λ (v : Option Loc). cond (leaf d) (at_option v (coarse_part own m side d)) 0) meet
        ∙ inner_counts own m axis side d e x meet (half_false (is_high_half (child_number m.shape.dims d) axis) side half))

-- what passes finer faces at one level passes them to coarser cells at the next
finer_sides : (own : Bool → Loc → ℕ) (m : Mesh) → IsMesh m → (axis : ℕ) (high : Bool) (level : ℕ) → axis < m.shape.dims → level < 10 →
    part_on (fine_part own m axis high) m axis high level ≡ part_on (coarse_part own m (not high)) m axis (not high) (level + 1)
finer_sides own m mesh axis high level used few =
    let s : Shape = cell_lattice m in
    let most = mesh.shape.most in
    let leaf : Loc → Bool = λ c. is_leaf m.shape (is_inner m) (block_of m c) in
    lattice_same s level (counts m (λ c. at_option (across s c axis high) (fine_part own m axis high c))) (λ c. at_option (across s c axis high) (λ o. cond (leaf c) (fine_part own m axis high c o) 0)) (omega arith)
    (λ c inside on. cond_at (leaf c) (across s c axis high) (fine_part own m axis high c))
    ∙ crossed_from s level axis high (λ c o. cond (leaf c) (fine_part own m axis high c o) 0) (omega arith) (omega arith)
    ∙ lattice_same s level (λ o. at_option (across s o axis (not high)) (λ c. cond (leaf c) (fine_part own m axis high c o) 0)) (λ o. sum_to (parts m.shape.dims) (λ j. finer_counts own m axis (not high) (child m.shape.dims o j))) (omega arith)
    (λ o inside on. children_count own m mesh axis high o)
    ∙ finer_lattice s mesh.shape.least mesh.shape.most level (finer_counts own m axis (not high))
    ∙ lattice_same s (level + 1) (finer_counts own m axis (not high)) (counts m (λ x. at_option (cell_across m x axis (not high)) (coarse_part own m (not high) x))) (omega arith)
    (λ d inside on. finer_is_coarser own m axis (not high) d (record { mesh = mesh; used = used; inside = inside; deep = omega arith }))

-- no finer faces lie below the finest level, and no root lies beside a coarser block
no_finer : (own : Bool → Loc → ℕ) (m : Mesh) → IsMesh m → (axis : ℕ) (high : Bool) → axis < 3 → part_on (fine_part own m axis high) m axis high 10 ≡ 0
no_finer own m mesh axis high used =
    lattice_same (cell_lattice m) 10 (counts m (λ c. at_option (cell_across m c axis high) (fine_part own m axis high c))) (λ c. 0) (omega arith)
    (λ c inside on. zero_under (is_leaf m.shape (is_inner m) (block_of m c)) (at_option (cell_across m c axis high) (fine_part own m axis high c))
    (at_same (cell_across m c axis high) (fine_part own m axis high c) (λ o. 0) (λ o meet. outer c o on (crossed_level (cell_lattice m) c axis high o meet)) ∙ nothing (cell_across m c axis high)))
    ∙ lattice_nothing (cell_lattice m) 10
  where
    nothing : (o : Option Loc) → at_option o (λ x. 0) ≡ 0
    nothing None = refl
    nothing (Some x) = refl

    outer : (c o : Loc) → c.level ≡ 10 → o.level ≡ c.level → fine_part own m axis high c o ≡ 0
    outer c o e g = ap (λ (b : Bool). cond b (fine_sum own m axis high o) 0) (fails (is_inner m (block_of m o)) (λ h. let a = mesh.tree.above_finest (block_of m o) h in omega arith))

no_coarser : (own : Bool → Loc → ℕ) (m : Mesh) (axis : ℕ) (high : Bool) → axis < 3 → part_on (coarse_part own m high) m axis high 0 ≡ 0
no_coarser own m axis high used =
    lattice_same (cell_lattice m) 0 (counts m (λ c. at_option (cell_across m c axis high) (coarse_part own m high c))) (λ c. 0) (omega arith)
    (λ c inside on. zero_under (is_leaf m.shape (is_inner m) (block_of m c)) (at_option (cell_across m c axis high) (coarse_part own m high c))
    (at_same (cell_across m c axis high) (coarse_part own m high c) (λ o. 0) (λ o meet. root c o (crossed_level (cell_lattice m) c axis high o meet ∙ on)) ∙ nothing (cell_across m c axis high)))
    ∙ lattice_nothing (cell_lattice m) 0
  where
    nothing : (o : Option Loc) → at_option o (λ x. 0) ≡ 0
    nothing None = refl
    nothing (Some x) = refl

    root : (c o : Loc) → o.level ≡ 0 → coarse_part own m high c o ≡ 0
    root c o e = ap (λ (b : Bool). cond b 0 (own high c)) (root_node m.shape (is_inner m) (block_of m o) e)

-- all finer faces are all faces of finer cells to coarser ones
all_finer : (own : Bool → Loc → ℕ) (m : Mesh) → IsMesh m → (axis : ℕ) (high : Bool) → axis < m.shape.dims → (n : ℕ) → n ≡ 10 →
    sum_to (suc n) (λ level. part_on (fine_part own m axis high) m axis high level) ≡ sum_to (suc n) (λ level. part_on (coarse_part own m (not high)) m axis (not high) level)
all_finer own m mesh axis high used n ten =
    let most = mesh.shape.most in
    let fine_at : ℕ → ℕ = λ level. part_on (fine_part own m axis high) m axis high level in
    let coarse_at : ℕ → ℕ = λ level. part_on (coarse_part own m (not high)) m axis (not high) level in
    let last : fine_at n ≡ 0 = ap fine_at ten ∙ no_finer own m mesh axis high (omega arith) in
    let first : coarse_at 0 ≡ 0 = no_coarser own m axis (not high) (omega arith) in
    let each = sum_to-same n fine_at (λ level. coarse_at (suc level)) (λ level l. finer_sides own m mesh axis high level used (omega arith) ∙ ap coarse_at (add-one level)) in
    let front = sum_first n coarse_at in
    omega arith

balanced_sums : (iu id su cu fu sd cd fd pu pd : ℕ) → iu ≡ pu + fu → pu ≡ su + cu → id ≡ pd + fd → pd ≡ sd + cd → su ≡ sd → fu ≡ cd → fd ≡ cu → iu ≡ id
balanced_sums iu id su cu fu sd cd fd pu pd a b c d e f g = omega arith

-- what passes the low sides from within the mesh is what passes the high sides
pub interior_balances : (own : Bool → Loc → ℕ) (m : Mesh) → IsMesh m → (axis : ℕ) → IsMirrored own m axis → axis < m.shape.dims → sum_cells m (interior own m axis true) ≡ sum_cells m (interior own m axis false)
interior_balances own m mesh axis mirrored used =
    let most = mesh.shape.most in
    let by_level = λ (high : Bool). cells_by_level m mesh (interior own m axis high) in
    let parts_of = λ (high : Bool). sum_to-same 11 (λ i. lattice (cell_lattice m) i (counts m (interior own m axis high)))
    (λ i. part_on (same_part own m high) m axis high i + part_on (coarse_part own m high) m axis high i + part_on (fine_part own m axis high) m axis high i)
    (λ i l. level_parts own m mesh axis high i (omega arith)) in
    let sums = λ (high : Bool). sum_plus 11 (λ i. part_on (same_part own m high) m axis high i + part_on (coarse_part own m high) m axis high i) (λ i. part_on (fine_part own m axis high) m axis high i) in
    let more = λ (high : Bool). sum_plus 11 (λ i. part_on (same_part own m high) m axis high i) (λ i. part_on (coarse_part own m high) m axis high i) in
    let sames = sum_to-same 11 (λ i. part_on (same_part own m true) m axis true i) (λ i. part_on (same_part own m false) m axis false i) (λ i l. same_sides own m axis mirrored i (omega arith) (omega arith)) in
    let up = all_finer own m mesh axis true used 10 refl in
    let down = all_finer own m mesh axis false used 10 refl in
    let up_is = by_level true ∙ parts_of true ∙ sums true in
    let down_is = by_level false ∙ parts_of false ∙ sums false in
    let more_up = more true in
    let more_down = more false in
    balanced_sums _ _ _ _ _ _ _ _ _ _ up_is more_up down_is more_down sames up down
