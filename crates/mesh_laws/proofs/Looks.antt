-- What the look is on a mesh.
use Rattle.std.proofs.Common.{◌≡◌, inl, inr, ℕ, zero, suc, ◌+◌, ◌-◌, ◌*◌, ◌/◌, ◌<◌, ◌≤◌, Bool, true, false, cond, ◌||◌, nat_lt, refl, arith, ap, sym, ◌∙◌}
use Rattle.std.proofs.Math.Nat.{div-div-eq-div-mul, mul_comm}
use Rattle.std.proofs.lemmas.Bool.{cases_eq, false≢true, ne_eqb}
use Rattle.morton_order.specs.declared.space.Loc.{Loc}
use Rattle.morton_order.specs.Space.{child, child_number, factor, parent, parts}
use Rattle.morton_order.proofs.Family.{parent-child}
use Rattle.morton_order.proofs.Touching.{same_as}
use Rattle.block_tree.specs.Tree.{is_node}
use Rattle.block_tree.proofs.Ancestors.{node_parent, parent_node, root_node}
use Rattle.block_tree.proofs.Behinds.{fails, number_of_child}
use Rattle.mesh_num.specs.Share.{share}
use Rattle.mesh_rules.specs.Sums.{sum_to}
use Rattle.mesh_rules.specs.Mesh.{IsMesh, Mesh, OnLeaf, block_of, cells_along, is_inner, stored}
use Rattle.mesh_rules.specs.Look.{gathered, look, spread, sum_where}
use Rattle.mesh_laws.specs.LookLaws.{LookLaw, LooksAddUp, sum_below}
use Rattle.mesh_laws.proofs.Portions.{all_shares}
use Rattle.mesh_laws.proofs.Totals.{sum_to-same}

-- two divisions in either order
swapped : (x a n : ℕ) → x / a / n ≡ x / n / a
swapped x a n = div-div-eq-div-mul x a n ∙ ap (λ v. x / v) (mul_comm a n) ∙ sym (div-div-eq-div-mul x n a)

-- the block of a parent is the parent of the block
pub block_parent : (m : Mesh) (c : Loc) → block_of m (parent m.shape.dims c) ≡ parent m.shape.dims (block_of m c)
block_parent m c = same_as (parent m.shape.dims (block_of m c)) (block_of m (parent m.shape.dims c)) refl
    (swapped c.l1 (factor m.shape.dims 0) (cells_along m 0)) (swapped c.l2 (factor m.shape.dims 1) (cells_along m 1)) (swapped c.l3 (factor m.shape.dims 2) (cells_along m 2))

-- the parent of a child's block is the cell's block
pub block_child : (m : Mesh) (c : Loc) (j : ℕ) → parent m.shape.dims (block_of m (child m.shape.dims c j)) ≡ block_of m c
block_child m c j = sym (block_parent m (child m.shape.dims c j)) ∙ ap (block_of m) (parent-child m.shape.dims c j)

-- what is stored on a leaf is all that is gathered there
gathered_leaf : (k : ℕ) (m : Mesh) (f : ℕ) (c : Loc) → is_inner m (block_of m c) ≡ false → gathered k m f c ≡ stored m f c
gathered_leaf zero m f c h = refl
gathered_leaf (suc k) m f c h = ap (λ (b : Bool). sum_where b (parts m.shape.dims) (λ j. gathered k m f (child m.shape.dims c j)) (stored m f c)) h

-- on a leaf nothing is spread
spread_leaf : (k : ℕ) (m : Mesh) (f : ℕ) (c : Loc) → c.level ≡ k → is_node m.shape (is_inner m) (block_of m c) ≡ true → spread k m f c ≡ stored m f c
spread_leaf zero m f c e node = refl
spread_leaf (suc k) m f c e node =
    let inner : is_inner m (block_of m (parent m.shape.dims c)) ≡ true = ap (is_inner m) (block_parent m c) ∙ node_parent m.shape (is_inner m) (block_of m c) (omega arith) node in
    ap (λ (b : Bool). cond b (stored m f c) (share (spread k m f (parent m.shape.dims c)) (parts m.shape.dims) (child_number m.shape.dims c))) inner

-- the two sides of the look
look_inner : (m : Mesh) (f : ℕ) (c : Loc) → is_inner m (block_of m c) ≡ true → look m f c ≡ gathered (10 - c.level) m f c
unfolding look
look_inner m f c h = ap (λ (b : Bool). cond b (gathered (10 - c.level) m f c) (spread c.level m f c)) h

look_outer : (m : Mesh) (f : ℕ) (c : Loc) → is_inner m (block_of m c) ≡ false → look m f c ≡ spread c.level m f c
unfolding look
look_outer m f c h = ap (λ (b : Bool). cond b (gathered (10 - c.level) m f c) (spread c.level m f c)) h

-- an inner node is a node
pub inner_node : (m : Mesh) → IsMesh m → (l : Loc) → is_inner m l ≡ true → is_node m.shape (is_inner m) l ≡ true
inner_node m mesh l h = elim (cases_eq l.level 0) [
  | inl root ↦ root_node m.shape (is_inner m) l root
  | inr deep ↦ parent_node m.shape (is_inner m) l (mesh.tree.closed l h (omega arith))
]

-- what is no node is not inner, and no root
not_inner : (m : Mesh) → IsMesh m → (l : Loc) → is_node m.shape (is_inner m) l ≡ false → is_inner m l ≡ false
not_inner m mesh l h = fails (is_inner m l) (λ i. false≢true (sym h ∙ inner_node m mesh l i))

pub no_root : (m : Mesh) (l : Loc) → is_node m.shape (is_inner m) l ≡ false → 1 ≤ l.level
no_root m l h = elim (cases_eq l.level 0) [
  | inl root ↦ absurd (false≢true (sym h ∙ root_node m.shape (is_inner m) l root))
  | inr deep ↦ omega arith
]

-- a child of a cell in an inner node lies in a node
child_node : (m : Mesh) (c : Loc) (j : ℕ) → is_inner m (block_of m c) ≡ true → is_node m.shape (is_inner m) (block_of m (child m.shape.dims c j)) ≡ true
child_node m c j h = parent_node m.shape (is_inner m) (block_of m (child m.shape.dims c j)) (ap (is_inner m) (block_child m c j) ∙ h)

-- below an inner node the look is what is gathered
below_inner : (k : ℕ) (m : Mesh) (f : ℕ) (d : Loc) → is_node m.shape (is_inner m) (block_of m d) ≡ true → 10 - d.level ≡ k → (b : Bool) → is_inner m (block_of m d) ≡ b → look m f d ≡ gathered k m f d
below_inner k m f d node e true h = look_inner m f d h ∙ ap (λ t. gathered t m f d) e
below_inner k m f d node e false h = look_outer m f d h ∙ spread_leaf d.level m f d refl node ∙ sym (gathered_leaf k m f d h)

finer_by : (k : ℕ) (m : Mesh) (f : ℕ) (c : Loc) → is_inner m (block_of m c) ≡ true → 10 - c.level ≡ suc k → look m f c ≡ sum_to (parts m.shape.dims) (λ j. look m f (child m.shape.dims c j))
finer_by k m f c h e =
    look_inner m f c h
    ∙ ap (λ t. gathered t m f c) e
    ∙ ap (λ (b : Bool). sum_where b (parts m.shape.dims) (λ j. gathered k m f (child m.shape.dims c j)) (stored m f c)) h
    ∙ sum_to-same (parts m.shape.dims) (λ j. gathered k m f (child m.shape.dims c j)) (λ j. look m f (child m.shape.dims c j))
    (λ j l. sym (below_inner k m f (child m.shape.dims c j) (child_node m c j h) (omega arith) (is_inner m (block_of m (child m.shape.dims c j))) refl))

look_finer : (m : Mesh) (f : ℕ) (c : Loc) → IsMesh m → is_inner m (block_of m c) ≡ true → look m f c ≡ sum_to (parts m.shape.dims) (λ j. look m f (child m.shape.dims c j))
look_finer m f c mesh h = let low : c.level < 10 = mesh.tree.above_finest (block_of m c) h in finer_by (9 - c.level) m f c h (omega arith)

-- below a leaf the parent's look is shared
coarser_by : (k : ℕ) (m : Mesh) (f : ℕ) (c : Loc) → c.level ≡ suc k → is_inner m (block_of m c) ≡ false → is_inner m (block_of m (parent m.shape.dims c)) ≡ false →
    look m f c ≡ share (look m f (parent m.shape.dims c)) (parts m.shape.dims) (child_number m.shape.dims c)
coarser_by k m f c e outer above =
    let up : c.level - 1 ≡ k = omega arith in
    look_outer m f c outer
    ∙ ap (λ t. spread t m f c) e
    ∙ ap (λ (b : Bool). cond b (stored m f c) (share (spread k m f (parent m.shape.dims c)) (parts m.shape.dims) (child_number m.shape.dims c))) above
    ∙ ap (λ v. share v (parts m.shape.dims) (child_number m.shape.dims c)) (sym (look_outer m f (parent m.shape.dims c) above ∙ ap (λ t. spread t m f (parent m.shape.dims c)) up))

look_coarser : (m : Mesh) (f : ℕ) (c : Loc) → IsMesh m → is_node m.shape (is_inner m) (block_of m c) ≡ false → look m f c ≡ share (look m f (parent m.shape.dims c)) (parts m.shape.dims) (child_number m.shape.dims c)
look_coarser m f c mesh h =
    let deep : 1 ≤ c.level = no_root m (block_of m c) h in
    let above : is_inner m (block_of m (parent m.shape.dims c)) ≡ false =
    ap (is_inner m) (block_parent m c) ∙ fails (is_inner m (parent m.shape.dims (block_of m c))) (λ i. false≢true (sym h ∙ parent_node m.shape (is_inner m) (block_of m c) i)) in
    coarser_by (c.level - 1) m f c (omega arith) (not_inner m mesh (block_of m c) h) above

pub look_law : LookLaw
look_law m f c mesh = record {
  at_leaf = λ leaf. look_outer m f c (fails (is_inner m (block_of m c)) leaf.outer) ∙ spread_leaf c.level m f c refl leaf.node;
  finer = look_finer m f c mesh;
  coarser = look_coarser m f c mesh;
}

-- some parts there are
pub some_parts : (dims : ℕ) → 1 ≤ parts dims
some_parts dims = at_least (nat_lt 0 dims) (nat_lt 1 dims) (nat_lt 2 dims)
  where
    at_least : (a b c : Bool) → 1 ≤ cond a 2 1 * cond b 2 1 * cond c 2 1
    at_least true true true = omega arith
    at_least true true false = omega arith
    at_least true false true = omega arith
    at_least true false false = omega arith
    at_least false true true = omega arith
    at_least false true false = omega arith
    at_least false false true = omega arith
    at_least false false false = omega arith

-- the looks of the children add up, be finer cells stored or coarser ones
pub children_add_up : (m : Mesh) (f : ℕ) (c : Loc) → IsMesh m → sum_to (parts m.shape.dims) (λ j. look m f (child m.shape.dims c j)) ≡ look m f c
children_add_up m f c mesh = by (is_inner m (block_of m c)) refl
  where
    q : ℕ
    q = look m f c

    below : is_inner m (block_of m c) ≡ false → (j : ℕ) → is_node m.shape (is_inner m) (block_of m (child m.shape.dims c j)) ≡ false
    below h j = let deep : c.level + 1 ≡ 0 → ⊥ = λ e. omega arith in
        ap (λ (b : Bool). b || is_inner m (parent m.shape.dims (block_of m (child m.shape.dims c j)))) (ne_eqb (c.level + 1) 0 deep) ∙ ap (is_inner m) (block_child m c j) ∙ h

    one : is_inner m (block_of m c) ≡ false → (j : ℕ) → j < parts m.shape.dims → look m f (child m.shape.dims c j) ≡ share q (parts m.shape.dims) j
    one h j l = look_coarser m f (child m.shape.dims c j) mesh (below h j)
        ∙ ap (λ (v : Loc). share (look m f v) (parts m.shape.dims) (child_number m.shape.dims (child m.shape.dims c j))) (parent-child m.shape.dims c j)
        ∙ ap (share q (parts m.shape.dims)) (number_of_child m.shape.dims c j mesh.shape.most mesh.shape.least l)

    by : (b : Bool) → is_inner m (block_of m c) ≡ b → sum_to (parts m.shape.dims) (λ j. look m f (child m.shape.dims c j)) ≡ look m f c
    by true h = sym (look_finer m f c mesh h)
    by false h = sum_to-same (parts m.shape.dims) (λ j. look m f (child m.shape.dims c j)) (share q (parts m.shape.dims)) (one h) ∙ all_shares q (parts m.shape.dims) (some_parts m.shape.dims)

pub looks_add_up : LooksAddUp
looks_add_up m f zero c mesh = refl
looks_add_up m f (suc levels) c mesh =
    sum_to-same (parts m.shape.dims) (λ j. sum_below levels m.shape.dims (look m f) (child m.shape.dims c j)) (λ j. look m f (child m.shape.dims c j)) (λ j l. looks_add_up m f levels (child m.shape.dims c j) mesh)
    ∙ children_add_up m f c mesh

-- below a leaf there is no node
pub no_node : (m : Mesh) (c : Loc) → 1 ≤ c.level → OnLeaf m (parent m.shape.dims c) → is_node m.shape (is_inner m) (block_of m c) ≡ false
no_node m c deep leaf =
    ap (λ (b : Bool). b || is_inner m (parent m.shape.dims (block_of m c))) (ne_eqb c.level 0 (λ e. omega arith))
    ∙ ap (is_inner m) (sym (block_parent m c)) ∙ fails (is_inner m (block_of m (parent m.shape.dims c))) leaf.outer
