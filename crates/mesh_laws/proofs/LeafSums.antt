-- A sum over all cells of a mesh is a sum over all cells of all levels, of those that lie on leaves.
use Rattle.std.proofs.Common.{◌≡◌, ℕ, zero, suc, ◌+◌, ◌*◌, ◌/◌, ◌%◌, ◌^◌, ◌<◌, ◌≤◌, Bool, true, false, cond, not, ◌&&◌, ◌||◌, nat_lt, List, [], ◌∷◌, refl, arith, ap, sym, ◌∙◌, lit<, add-one}
use Rattle.std.specs.List.{flat_map, range_with_len}
use Rattle.std.proofs.Math.Nat.{pow-suc, pow-zero}
use Rattle.std.proofs.lemmas.Bool.{ltb-true, lt-ltb, ne_eqb}
use Rattle.std.proofs.lemmas.Nat.{div_below, div-mul-add, mod-mul-add, mod_below}
use Rattle.morton_order.specs.declared.space.Loc.{Loc}
use Rattle.morton_order.specs.declared.space.Shape.{Shape}
use Rattle.morton_order.specs.Space.{IsShape, blocks_along, child, factor, parent, parts, root_along}
use Rattle.morton_order.proofs.Family.{parent-child}
use Rattle.morton_order.proofs.Lattice.{root_count}
use Rattle.morton_order.proofs.Touching.{same_as}
use Rattle.block_tree.specs.Tree.{IsTree, is_node}
use Rattle.block_tree.specs.Leaves.{begins_inside, leaves_below, leaves_of, pieces, roots, roots_in}
use Rattle.block_tree.proofs.Ancestors.{parent_node, root_node}
use Rattle.block_tree.proofs.Behinds.{fails}
use Rattle.mesh_rules.specs.Sums.{sum_over, sum_to}
use Rattle.mesh_rules.specs.Mesh.{IsMesh, Mesh, block_of, block_size, cell_at, cell_lattice, cells_along, is_inner, sum_cells}
use Rattle.mesh_laws.proofs.Grids.{grid, grid_below, grid_same, grid_split, grid_turned, sum_first, sum_nothing, sum_over-flat, sum_over-range, sum_product, sum_swap, sum_zero}
use Rattle.mesh_laws.proofs.Lattices.{finer_lattice, lattice, lattice_plus, lattice_same, place}
use Rattle.mesh_laws.proofs.Totals.{sum_to-same}

-- whether a location is a leaf
abbrev pub is_leaf : Shape → (Loc → Bool) → Loc → Bool
is_leaf s inner l = is_node s inner l && not (inner l)

-- what a location counts for where it is a leaf
abbrev pub on_leaf : Shape → (Loc → Bool) → (Loc → ℕ) → Loc → ℕ
on_leaf s inner g l = cond (is_leaf s inner l) (g l) 0

-- the sum over what lies that many levels below a location
abbrev desc : ℕ → ℕ → Loc → (Loc → ℕ) → ℕ
desc zero dims l g = g l
desc (suc i) dims l g = sum_to (parts dims) (λ j. desc i dims (child dims l j) g)

-- below what is no node there is no leaf
nothing_below : (s : Shape) (inner : Loc → Bool) → IsTree s inner → (g : Loc → ℕ) (i : ℕ) (x : Loc) → is_node s inner x ≡ false → inner x ≡ false → desc i s.dims x (on_leaf s inner g) ≡ 0
nothing_below s inner tree g zero x node outer = ap (λ (b : Bool). cond (b && not (inner x)) (g x) 0) node
nothing_below s inner tree g (suc i) x node outer = sum_zero (parts s.dims) (λ j. desc i s.dims (child s.dims x j) (on_leaf s inner g)) (λ j l. nothing_below s inner tree g i (child s.dims x j) (child_no_node s inner x j outer) (child_outer s inner tree x j outer))
  where
    child_no_node : (s : Shape) (inner : Loc → Bool) (x : Loc) (j : ℕ) → inner x ≡ false → is_node s inner (child s.dims x j) ≡ false
    child_no_node s inner x j outer = let deep : x.level + 1 ≡ 0 → ⊥ = λ e. omega arith in
        ap (λ (b : Bool). b || inner (parent s.dims (child s.dims x j))) (ne_eqb (x.level + 1) 0 deep) ∙ ap inner (parent-child s.dims x j) ∙ outer

    child_outer : (s : Shape) (inner : Loc → Bool) → IsTree s inner → (x : Loc) (j : ℕ) → inner x ≡ false → inner (child s.dims x j) ≡ false
    child_outer s inner tree x j outer = fails (inner (child s.dims x j)) (λ h. clash (sym (ap inner (parent-child s.dims x j) ∙ outer) ∙ tree.closed (child s.dims x j) h (omega arith)))
      where
        clash : false ≡ true → ⊥
        clash e = cc

strictly_below : (s : Shape) (inner : Loc → Bool) → IsTree s inner → (g : Loc → ℕ) (i : ℕ) (l : Loc) → inner l ≡ false → desc (suc i) s.dims l (on_leaf s inner g) ≡ 0
strictly_below s inner tree g i l outer = sum_zero (parts s.dims) (λ j. desc i s.dims (child s.dims l j) (on_leaf s inner g)) (λ j m. nothing_below s inner tree g i (child s.dims l j) (no_node j) (no_inner j))
  where
    no_node : (j : ℕ) → is_node s inner (child s.dims l j) ≡ false
    no_node j = let deep : l.level + 1 ≡ 0 → ⊥ = λ e. omega arith in
        ap (λ (b : Bool). b || inner (parent s.dims (child s.dims l j))) (ne_eqb (l.level + 1) 0 deep) ∙ ap inner (parent-child s.dims l j) ∙ outer

    no_inner : (j : ℕ) → inner (child s.dims l j) ≡ false
    no_inner j = fails (inner (child s.dims l j)) (λ h. clash (sym (ap inner (parent-child s.dims l j) ∙ outer) ∙ tree.closed (child s.dims l j) h (omega arith)))
      where
        clash : false ≡ true → ⊥
        clash e = cc

-- a leaf counts, an inner node does not
leaf_counts : (s : Shape) (inner : Loc → Bool) (g : Loc → ℕ) (l : Loc) → is_node s inner l ≡ true → inner l ≡ false → on_leaf s inner g l ≡ g l
leaf_counts s inner g l node outer = ap (λ (b : Bool). cond (b && not (inner l)) (g l) 0) node ∙ ap (λ (b : Bool). cond (not b) (g l) 0) outer

inner_counts_not : (s : Shape) (inner : Loc → Bool) (g : Loc → ℕ) (l : Loc) → inner l ≡ true → on_leaf s inner g l ≡ 0
inner_counts_not s inner g l h = ap (λ (b : Bool). cond (is_node s inner l && not b) (g l) 0) h ∙ both (is_node s inner l)
  where
    both : (b : Bool) → cond (b && false) (g l) 0 ≡ 0
    both true = refl
    both false = refl

drop_zero : (a b : ℕ) → a ≡ 0 → a + b ≡ b
drop_zero a b e = omega arith

plus_zero : (a b c : ℕ) → b ≡ a → c ≡ 0 → a + 0 ≡ b + c
plus_zero a b c e f = omega arith

-- the leaves below a node, from those below its children
below_by : (s : Shape) (inner : Loc → Bool) → IsTree s inner → (g : Loc → ℕ) (k : ℕ) (l : Loc) → is_node s inner l ≡ true →
    (inner l ≡ true → (j : ℕ) → sum_over (leaves_below k s.dims inner (child s.dims l j)) g ≡ sum_to (suc k) (λ i. desc i s.dims (child s.dims l j) (on_leaf s inner g))) →
    (b : Bool) → inner l ≡ b → sum_over (pieces b (parts s.dims) (λ j. leaves_below k s.dims inner (child s.dims l j)) (l ∷ [])) g ≡ sum_to (suc (suc k)) (λ i. desc i s.dims l (on_leaf s inner g))
below_by s inner tree g k l node again true h =
    let first = sum_first (suc k) (λ i. desc i s.dims l (on_leaf s inner g)) in
    let none = inner_counts_not s inner g l h in
    let flat = sum_over-flat (λ j. leaves_below k s.dims inner (child s.dims l j)) (range_with_len 0 (parts s.dims)) g in
    let range = sum_over-range 0 (parts s.dims) (λ j. sum_over (leaves_below k s.dims inner (child s.dims l j)) g) in
    let each = sum_to-same (parts s.dims) (λ j. sum_over (leaves_below k s.dims inner (child s.dims l (0 + j))) g) (λ j. sum_to (suc k) (λ i. desc i s.dims (child s.dims l j) (on_leaf s inner g)))
    (λ j m. let z : 0 + j ≡ j = omega arith in ap (λ v. sum_over (leaves_below k s.dims inner (child s.dims l v)) g) z ∙ again h j) in
    let swap = sum_swap (parts s.dims) (suc k) (λ j i. desc i s.dims (child s.dims l j) (on_leaf s inner g)) in
    flat ∙ range ∙ each ∙ swap ∙ sym (first ∙ drop_zero (on_leaf s inner g l) (sum_to (suc k) (λ i. sum_to (parts s.dims) (λ j. desc i s.dims (child s.dims l j) (on_leaf s inner g)))) none)
below_by s inner tree g k l node again false h =
    let first = sum_first (suc k) (λ i. desc i s.dims l (on_leaf s inner g)) in
    let rest = sum_zero (suc k) (λ i. desc (suc i) s.dims l (on_leaf s inner g)) (λ i m. strictly_below s inner tree g i l h) in
    let own = leaf_counts s inner g l node h in
    let one : g l + 0 ≡ on_leaf s inner g l + sum_to (suc k) (λ i. desc (suc i) s.dims l (on_leaf s inner g)) = plus_zero (g l) (on_leaf s inner g l) (sum_to (suc k) (λ i. desc (suc i) s.dims l (on_leaf s inner g))) own rest in
    one ∙ sym first

-- the leaves below a node, level by level
below : (s : Shape) (inner : Loc → Bool) → IsTree s inner → (g : Loc → ℕ) (k : ℕ) (l : Loc) → is_node s inner l ≡ true → l.level + k ≡ 10 → sum_over (leaves_below k s.dims inner l) g ≡ sum_to (suc k) (λ i. desc i s.dims l (on_leaf s inner g))
below s inner tree g zero l node level =
    let outer = fails (inner l) (λ h. let a = tree.above_finest l h in omega arith) in
    let e = leaf_counts s inner g l node outer in omega arith
below s inner tree g (suc k) l node level =
    below_by s inner tree g k l node (λ h j. below s inner tree g k (child s.dims l j) (parent_node s inner (child s.dims l j) (ap inner (parent-child s.dims l j) ∙ h)) (omega arith)) (inner l) refl

-- one level more at the lower end
desc_end : (i dims : ℕ) (l : Loc) (g : Loc → ℕ) → desc (suc i) dims l g ≡ desc i dims l (λ x. sum_to (parts dims) (λ j. g (child dims x j)))
desc_end zero dims l g = refl
desc_end (suc i) dims l g = sum_to-same (parts dims) (λ j. desc (suc i) dims (child dims l j) g) (λ j. desc i dims (child dims l j) (λ x. sum_to (parts dims) (λ k. g (child dims x k)))) (λ j m. desc_end i dims (child dims l j) g)

-- what lies that many levels below the roots is that level
level_below : (s : Shape) → IsShape s → (i : ℕ) (g : Loc → ℕ) → lattice s 0 (λ r. desc i s.dims r g) ≡ lattice s i g
level_below s shape zero g = refl
level_below s shape (suc i) g =
    lattice_same s 0 (λ r. desc (suc i) s.dims r g) (λ r. desc i s.dims r (λ x. sum_to (parts s.dims) (λ j. g (child s.dims x j)))) (omega arith) (λ r inside at. desc_end i s.dims r g)
    ∙ level_below s shape i (λ x. sum_to (parts s.dims) (λ j. g (child s.dims x j)))
    ∙ finer_lattice s shape.least shape.most i g
    ∙ ap (λ v. lattice s v g) (add-one i)

-- sums of levels
lattice_sum : (s : Shape) (level n : ℕ) (f : ℕ → Loc → ℕ) → lattice s level (λ l. sum_to n (λ i. f i l)) ≡ sum_to n (λ i. lattice s level (f i))
lattice_sum s level zero f = sum_zero (blocks_along s 0 level) (λ x. sum_to (blocks_along s 1 level) (λ y. sum_to (blocks_along s 2 level) (λ z. 0))) (λ x p. sum_zero (blocks_along s 1 level) (λ y. sum_to (blocks_along s 2 level) (λ z. 0)) (λ y q. sum_nothing (blocks_along s 2 level)))
lattice_sum s level (suc n) f = lattice_plus s level (λ l. sum_to n (λ i. f i l)) (f n) ∙ ap (λ v. v + lattice s level (f n)) (lattice_sum s level n f)

-- the roots in a cube
abbrev cube : ℕ → Shape → ℕ → ℕ → ℕ → (Loc → ℕ) → ℕ
cube k s x y z g = grid (2 ^ k) (2 ^ k) (2 ^ k) (λ u v w. cond (begins_inside s 0 (x * 2 ^ k + u) (y * 2 ^ k + v) (z * 2 ^ k + w)) (g (place 0 (x * 2 ^ k + u) (y * 2 ^ k + v) (z * 2 ^ k + w))) 0)

double : (k : ℕ) → 2 ^ suc k ≡ 2 * 2 ^ k
double k = pow-suc 2 k ∙ twice (2 ^ k)
  where
    twice : (n : ℕ) → n * 2 ≡ 2 * n
    twice n = omega arith

-- a cube is eight halves
halved_cube : (k : ℕ) (s : Shape) (x y z : ℕ) (g : Loc → ℕ) → sum_to 8 (λ j. cube k s (2 * x + j % 2) (2 * y + j / 2 % 2) (2 * z + j / 4) g) ≡ cube (suc k) s x y z g
halved_cube k s x y z g =
    let n : ℕ = 2 ^ k in
    let h : ℕ → ℕ → ℕ → ℕ = λ u v w. cond (begins_inside s 0 u v w) (g (place 0 u v w)) 0 in
    let eight : sum_to 8 (λ j. cube k s (2 * x + j % 2) (2 * y + j / 2 % 2) (2 * z + j / 4) g) ≡ grid 2 2 2 (λ a b c. cube k s (2 * x + a) (2 * y + b) (2 * z + c) g) = omega arith in
    let moved = grid_same 2 2 2 (λ a b c. cube k s (2 * x + a) (2 * y + b) (2 * z + c) g) (λ a b c. grid n n n (λ u v w. h (x * (2 * n) + (a * n + u)) (y * (2 * n) + (b * n + v)) (z * (2 * n) + (c * n + w))))
    (λ a b c p q r. grid_same n n n (λ u v w. h ((2 * x + a) * n + u) ((2 * y + b) * n + v) ((2 * z + c) * n + w)) (λ u v w. h (x * (2 * n) + (a * n + u)) (y * (2 * n) + (b * n + v)) (z * (2 * n) + (c * n + w)))
    (λ u v w l m t. three h (regroup x a n u) (regroup y b n v) (regroup z c n w))) in
    let split = grid_split 2 2 2 n n n (λ u v w. h (x * (2 * n) + u) (y * (2 * n) + v) (z * (2 * n) + w)) in
    eight ∙ moved ∙ sym split ∙ ap (λ t. grid t t t (λ u v w. h (x * t + u) (y * t + v) (z * t + w))) (sym (double k))
  where
    regroup : (x a n u : ℕ) → (2 * x + a) * n + u ≡ x * (2 * n) + (a * n + u)
    regroup x a n u = omega arith

    three : (h : ℕ → ℕ → ℕ → ℕ) {a b c p q r : ℕ} → a ≡ p → b ≡ q → c ≡ r → h a b c ≡ h p q r
    three h e f g = cc

-- a cube that begins outside has no root
nothing_outside : (k : ℕ) (s : Shape) (x y z : ℕ) (g : Loc → ℕ) → begins_inside s k x y z ≡ false → cube k s x y z g ≡ 0
nothing_outside k s x y z g h =
    sum_zero (2 ^ k) (λ u. sum_to (2 ^ k) (λ v. sum_to (2 ^ k) (λ w. each u v w)))
    (λ u p. sum_zero (2 ^ k) (λ v. sum_to (2 ^ k) (λ w. each u v w)) (λ v q. sum_zero (2 ^ k) (λ w. each u v w) (λ w r. ap (λ (b : Bool). cond b (g (place 0 (x * 2 ^ k + u) (y * 2 ^ k + v) (z * 2 ^ k + w))) 0) (beyond u v w))))
  where
    each : ℕ → ℕ → ℕ → ℕ
    each u v w = cond (begins_inside s 0 (x * 2 ^ k + u) (y * 2 ^ k + v) (z * 2 ^ k + w)) (g (place 0 (x * 2 ^ k + u) (y * 2 ^ k + v) (z * 2 ^ k + w))) 0

    test : (r p u : ℕ) → nat_lt ((p + u) * 2 ^ 0) r ≡ true → nat_lt p r ≡ true
    test r p u e = lt-ltb p r (lower r p u (ltb-true ((p + u) * 2 ^ 0) r e))
      where
        lower : (r p u : ℕ) → (p + u) * 2 ^ 0 < r → p < r
        lower r p u h = omega arith

    all_three : (a b c d e f : Bool) → (a ≡ true → d ≡ true) → (b ≡ true → e ≡ true) → (c ≡ true → f ≡ true) → (d && e && f) ≡ false → (a && b && c) ≡ false
    all_three false b c d e f p q r h = refl
    all_three true false c d e f p q r h = refl
    all_three true true false d e f p q r h = refl
    all_three true true true d e f p q r h = clash d e f (p refl) (q refl) (r refl) h
      where
        clash : (d e f : Bool) → d ≡ true → e ≡ true → f ≡ true → (d && e && f) ≡ false → true ≡ false
        clash d e f a b c h = cc

    beyond : (u v w : ℕ) → begins_inside s 0 (x * 2 ^ k + u) (y * 2 ^ k + v) (z * 2 ^ k + w) ≡ false
    beyond u v w = all_three (nat_lt ((x * 2 ^ k + u) * 2 ^ 0) (root_along s 0)) (nat_lt ((y * 2 ^ k + v) * 2 ^ 0) (root_along s 1)) (nat_lt ((z * 2 ^ k + w) * 2 ^ 0) (root_along s 2))
        (nat_lt (x * 2 ^ k) (root_along s 0)) (nat_lt (y * 2 ^ k) (root_along s 1)) (nat_lt (z * 2 ^ k) (root_along s 2))
        (test (root_along s 0) (x * 2 ^ k) u) (test (root_along s 1) (y * 2 ^ k) v) (test (root_along s 2) (z * 2 ^ k) w) h

-- one root, or none
one_root : (b : Bool) (l : Loc) (g : Loc → ℕ) → sum_over (cond b (l ∷ []) []) g ≡ cond b (g l) 0
one_root true l g = omega arith
one_root false l g = refl

by_halves : (k : ℕ) (s : Shape) (x y z : ℕ) (g : Loc → ℕ) → ((a b c : ℕ) → sum_over (roots_in k s a b c) g ≡ cube k s a b c g) → (b : Bool) → begins_inside s (suc k) x y z ≡ b →
    sum_over (pieces b 8 (λ j. roots_in k s (2 * x + j % 2) (2 * y + j / 2 % 2) (2 * z + j / 4)) []) g ≡ cube (suc k) s x y z g
by_halves k s x y z g again true h =
    sum_over-flat (λ j. roots_in k s (2 * x + j % 2) (2 * y + j / 2 % 2) (2 * z + j / 4)) (range_with_len 0 8) g
    ∙ sum_over-range 0 8 (λ j. sum_over (roots_in k s (2 * x + j % 2) (2 * y + j / 2 % 2) (2 * z + j / 4)) g)
    ∙ sum_to-same 8 (λ j. sum_over (roots_in k s (2 * x + (0 + j) % 2) (2 * y + (0 + j) / 2 % 2) (2 * z + (0 + j) / 4)) g) (λ j. cube k s (2 * x + j % 2) (2 * y + j / 2 % 2) (2 * z + j / 4) g)
    (λ j l. let e : 0 + j ≡ j = omega arith in ap (λ t. sum_over (roots_in k s (2 * x + t % 2) (2 * y + t / 2 % 2) (2 * z + t / 4)) g) e ∙ again (2 * x + j % 2) (2 * y + j / 2 % 2) (2 * z + j / 4))
    ∙ halved_cube k s x y z g
by_halves k s x y z g again false h = sym (nothing_outside (suc k) s x y z g h)

roots_in_cube : (k : ℕ) (s : Shape) (x y z : ℕ) (g : Loc → ℕ) → sum_over (roots_in k s x y z) g ≡ cube k s x y z g
roots_in_cube zero s x y z g =
    let a : x ≡ x * 1 + 0 = omega arith in
    let b : y ≡ y * 1 + 0 = omega arith in
    let c : z ≡ z * 1 + 0 = omega arith in
    one_root (begins_inside s 0 x y z) (place 0 x y z) g
    ∙ ap (λ t. cond (begins_inside s 0 t y z) (g (place 0 t y z)) 0) a
    ∙ ap (λ t. cond (begins_inside s 0 (x * 1 + 0) t z) (g (place 0 (x * 1 + 0) t z)) 0) b
    ∙ ap (λ t. cond (begins_inside s 0 (x * 1 + 0) (y * 1 + 0) t) (g (place 0 (x * 1 + 0) (y * 1 + 0) t)) 0) c
    ∙ alone (cond (begins_inside s 0 (x * 1 + 0) (y * 1 + 0) (z * 1 + 0)) (g (place 0 (x * 1 + 0) (y * 1 + 0) (z * 1 + 0))) 0)
  where
    alone : (v : ℕ) → v ≡ 0 + (0 + (0 + v))
    alone v = omega arith
roots_in_cube (suc k) s x y z g = by_halves k s x y z g (λ a b c. roots_in_cube k s a b c g) (begins_inside s (suc k) x y z) refl

-- a cube from the origin that is large enough has all roots
whole_cube : (k : ℕ) (s : Shape) (g : Loc → ℕ) → root_along s 0 ≤ 2 ^ k → root_along s 1 ≤ 2 ^ k → root_along s 2 ≤ 2 ^ k → cube k s 0 0 0 g ≡ lattice s 0 g
whole_cube k s g p q r =
    let n : ℕ = 2 ^ k in
    grid_same n n n (λ u v w. cond (begins_inside s 0 (0 * n + u) (0 * n + v) (0 * n + w)) (g (place 0 (0 * n + u) (0 * n + v) (0 * n + w))) 0) (λ u v w. cond (nat_lt u (root_along s 0) && nat_lt v (root_along s 1) && nat_lt w (root_along s 2)) (g (place 0 u v w)) 0)
    (λ u v w l m t. plain n u v w)
    ∙ grid_below (root_along s 0) (root_along s 1) (root_along s 2) n n n (λ u v w. g (place 0 u v w)) p q r
    ∙ ap (λ t. grid t (root_along s 1) (root_along s 2) (λ u v w. g (place 0 u v w))) (one (root_along s 0) (factor s.dims 0))
    ∙ ap (λ t. grid (blocks_along s 0 0) t (root_along s 2) (λ u v w. g (place 0 u v w))) (one (root_along s 1) (factor s.dims 1))
    ∙ ap (λ t. grid (blocks_along s 0 0) (blocks_along s 1 0) t (λ u v w. g (place 0 u v w))) (one (root_along s 2) (factor s.dims 2))
  where
    one : (r f : ℕ) → r ≡ r * f ^ 0
    one r f = let e : f ^ 0 ≡ 1 = pow-zero f in let a : r ≡ r * 1 = omega arith in a ∙ sym (ap (λ t. r * t) e)

    plain : (n u v w : ℕ) → cond (begins_inside s 0 (0 * n + u) (0 * n + v) (0 * n + w)) (g (place 0 (0 * n + u) (0 * n + v) (0 * n + w))) 0 ≡ cond (nat_lt u (root_along s 0) && nat_lt v (root_along s 1) && nat_lt w (root_along s 2)) (g (place 0 u v w)) 0
    plain n u v w =
        let a : 0 * n + u ≡ u = omega arith in
        let b : 0 * n + v ≡ v = omega arith in
        let c : 0 * n + w ≡ w = omega arith in
        let x : u * 1 ≡ u = omega arith in
        let y : v * 1 ≡ v = omega arith in
        let z : w * 1 ≡ w = omega arith in
        ap (λ t. cond (begins_inside s 0 t (0 * n + v) (0 * n + w)) (g (place 0 t (0 * n + v) (0 * n + w))) 0) a
        ∙ ap (λ t. cond (begins_inside s 0 u t (0 * n + w)) (g (place 0 u t (0 * n + w))) 0) b
        ∙ ap (λ t. cond (begins_inside s 0 u v t) (g (place 0 u v t)) 0) c
        ∙ ap (λ t. cond (nat_lt t (root_along s 0) && nat_lt (v * 1) (root_along s 1) && nat_lt (w * 1) (root_along s 2)) (g (place 0 u v w)) 0) x
        ∙ ap (λ t. cond (nat_lt u (root_along s 0) && nat_lt t (root_along s 1) && nat_lt (w * 1) (root_along s 2)) (g (place 0 u v w)) 0) y
        ∙ ap (λ t. cond (nat_lt u (root_along s 0) && nat_lt v (root_along s 1) && nat_lt t (root_along s 2)) (g (place 0 u v w)) 0) z

-- no axis has more than 2 ^ 16 roots
few_roots : (s : Shape) → IsShape s → (axis : ℕ) → axis < 3 → root_along s axis ≤ 2 ^ 16
few_roots s shape axis h = few (nat_lt axis s.dims) (root_along s axis) (root_count s shape axis h).1
  where
    few : (b : Bool) (r : ℕ) → r ≤ cond b 65536 1 → r ≤ 65536
    few true r h = h
    few false r h = omega arith

roots_sum : (s : Shape) → IsShape s → (g : Loc → ℕ) → sum_over (roots s) g ≡ lattice s 0 g
unfolding roots
roots_sum s shape g = roots_in_cube 16 s 0 0 0 g ∙ whole_cube 16 s g (few_roots s shape 0 (lit< tt)) (few_roots s shape 1 (lit< tt)) (few_roots s shape 2 (lit< tt))

-- the sum over the leaves of a tree, level by level
leaves_sum : (s : Shape) (inner : Loc → Bool) → IsShape s → IsTree s inner → (g : Loc → ℕ) → (k : ℕ) → k ≡ 10 →
    sum_over (flat_map (leaves_below k s.dims inner) (roots s)) g ≡ sum_to (suc k) (λ i. lattice s i (on_leaf s inner g))
leaves_sum s inner shape tree g k ten =
    sum_over-flat (leaves_below k s.dims inner) (roots s) g
    ∙ roots_sum s shape (λ r. sum_over (leaves_below k s.dims inner r) g)
    ∙ lattice_same s 0 (λ r. sum_over (leaves_below k s.dims inner r) g) (λ r. sum_to (suc k) (λ i. desc i s.dims r (on_leaf s inner g))) (omega arith)
    (λ r inside at. below s inner tree g k r (root_node s inner r at) (omega arith))
    ∙ lattice_sum s 0 (suc k) (λ i r. desc i s.dims r (on_leaf s inner g))
    ∙ sum_to-same (suc k) (λ i. lattice s 0 (λ r. desc i s.dims r (on_leaf s inner g))) (λ i. lattice s i (on_leaf s inner g)) (λ i l. level_below s shape i (on_leaf s inner g))

-- the sum over the cells of a block
abbrev cell_sum : Mesh → Loc → (Loc → ℕ) → ℕ
cell_sum m l h = sum_to (block_size m) (λ p. h (cell_at m l p))

-- a place of a block, row by row
cell_grid : (m : Mesh) (l : Loc) (h : Loc → ℕ) → cell_sum m l h ≡ grid (cells_along m 0) (cells_along m 1) (cells_along m 2) (λ u v w. h (place l.level (l.l1 * cells_along m 0 + u) (l.l2 * cells_along m 1 + v) (l.l3 * cells_along m 2 + w)))
cell_grid m l h =
    let n1 : ℕ = cells_along m 0 in
    let n2 : ℕ = cells_along m 1 in
    let n3 : ℕ = cells_along m 2 in
    let size : n1 * n2 * n3 ≡ n3 * n2 * n1 = omega arith in
    ap (λ t. sum_to t (λ p. h (cell_at m l p))) size
    ∙ sum_product (n3 * n2) n1 (λ p. h (cell_at m l p))
    ∙ sum_product n3 n2 (λ q. sum_to n1 (λ u. h (cell_at m l (q * n1 + u))))
    ∙ sum_to-same n3 (λ w. sum_to n2 (λ v. sum_to n1 (λ u. h (cell_at m l ((w * n2 + v) * n1 + u))))) (λ w. sum_to n2 (λ v. sum_to n1 (λ u. h (place l.level (l.l1 * n1 + u) (l.l2 * n2 + v) (l.l3 * n3 + w)))))
    (λ w a. sum_to-same n2 (λ v. sum_to n1 (λ u. h (cell_at m l ((w * n2 + v) * n1 + u)))) (λ v. sum_to n1 (λ u. h (place l.level (l.l1 * n1 + u) (l.l2 * n2 + v) (l.l3 * n3 + w))))
    (λ v b. sum_to-same n1 (λ u. h (cell_at m l ((w * n2 + v) * n1 + u))) (λ u. h (place l.level (l.l1 * n1 + u) (l.l2 * n2 + v) (l.l3 * n3 + w))) (λ u c. at_place n1 n2 n3 u v w c b)))
    ∙ sym (grid_turned n1 n2 n3 (λ u v w. h (place l.level (l.l1 * n1 + u) (l.l2 * n2 + v) (l.l3 * n3 + w))))
  where
    at_place : (n1 n2 n3 u v w : ℕ) → u < n1 → v < n2 →
        h (place l.level (l.l1 * n1 + ((w * n2 + v) * n1 + u) % n1) (l.l2 * n2 + ((w * n2 + v) * n1 + u) / n1 % n2) (l.l3 * n3 + ((w * n2 + v) * n1 + u) / n1 / n2)) ≡ h (place l.level (l.l1 * n1 + u) (l.l2 * n2 + v) (l.l3 * n3 + w))
    at_place n1 n2 n3 u v w a b =
        let e1 : ((w * n2 + v) * n1 + u) % n1 ≡ u = mod-mul-add (w * n2 + v) n1 u a in
        let e2 : ((w * n2 + v) * n1 + u) / n1 ≡ w * n2 + v = div-mul-add (w * n2 + v) n1 u a in
        let e3 : (w * n2 + v) % n2 ≡ v = mod-mul-add w n2 v b in
        let e4 : (w * n2 + v) / n2 ≡ w = div-mul-add w n2 v b in
        ap (λ t. h (place l.level (l.l1 * n1 + t) (l.l2 * n2 + ((w * n2 + v) * n1 + u) / n1 % n2) (l.l3 * n3 + ((w * n2 + v) * n1 + u) / n1 / n2))) e1
        ∙ ap (λ t. h (place l.level (l.l1 * n1 + u) (l.l2 * n2 + t % n2) (l.l3 * n3 + t / n2))) e2
        ∙ ap (λ t. h (place l.level (l.l1 * n1 + u) (l.l2 * n2 + t) (l.l3 * n3 + (w * n2 + v) / n2))) e3
        ∙ ap (λ t. h (place l.level (l.l1 * n1 + u) (l.l2 * n2 + v) (l.l3 * n3 + t))) e4

-- the cells of all blocks of a level are the cells of the level
blocks_of_cells : (m : Mesh) (level : ℕ) (h : Loc → ℕ) → level ≤ 10 → lattice m.shape level (λ l. cell_sum m l h) ≡ lattice (cell_lattice m) level h
blocks_of_cells m level h few =
    let n1 : ℕ = cells_along m 0 in
    let n2 : ℕ = cells_along m 1 in
    let n3 : ℕ = cells_along m 2 in
    let b1 : ℕ = blocks_along m.shape 0 level in
    let b2 : ℕ = blocks_along m.shape 1 level in
    let b3 : ℕ = blocks_along m.shape 2 level in
    lattice_same m.shape level (λ l. cell_sum m l h) (λ l. grid n1 n2 n3 (λ u v w. h (place l.level (l.l1 * n1 + u) (l.l2 * n2 + v) (l.l3 * n3 + w)))) few (λ l inside at. cell_grid m l h)
    ∙ sym (grid_split b1 b2 b3 n1 n2 n3 (λ x y z. h (place level x y z)))
    ∙ ap (λ t. grid t (b2 * n2) (b3 * n3) (λ x y z. h (place level x y z))) (turned (root_along m.shape 0) n1 (factor m.shape.dims 0 ^ level))
    ∙ ap (λ t. grid (blocks_along (cell_lattice m) 0 level) t (b3 * n3) (λ x y z. h (place level x y z))) (turned (root_along m.shape 1) n2 (factor m.shape.dims 1 ^ level))
    ∙ ap (λ t. grid (blocks_along (cell_lattice m) 0 level) (blocks_along (cell_lattice m) 1 level) t (λ x y z. h (place level x y z))) (turned (root_along m.shape 2) n3 (factor m.shape.dims 2 ^ level))
  where
    turned : (r n p : ℕ) → r * p * n ≡ r * n * p
    turned r n p = omega arith

-- the block of a cell of a block
pub block_of_cell : (m : Mesh) → ((axis : ℕ) → axis < 3 → 1 ≤ cells_along m axis) → (l : Loc) (p : ℕ) → p < block_size m → block_of m (cell_at m l p) ≡ l
block_of_cell m some l p h =
    let n1 : ℕ = cells_along m 0 in
    let n2 : ℕ = cells_along m 1 in
    let n3 : ℕ = cells_along m 2 in
    let s1 = some 0 (lit< tt) in
    let s2 = some 1 (lit< tt) in
    let q : p < n3 * n2 * n1 = omega arith in
    let r : p / n1 < n3 * n2 = div_below p n1 (n3 * n2) (omega arith) q in
    let t : p / n1 / n2 < n3 = div_below (p / n1) n2 n3 (omega arith) r in
    same_as l (block_of m (cell_at m l p)) refl
    (div-mul-add l.l1 n1 (p % n1) (mod_below p n1 (omega arith)))
    (div-mul-add l.l2 n2 (p / n1 % n2) (mod_below (p / n1) n2 (omega arith)))
    (div-mul-add l.l3 n3 (p / n1 / n2) t)

-- what a cell counts where it lies on a leaf of a tree, and of the mesh's own
abbrev pub counts_on : Mesh → (Loc → Bool) → (Loc → ℕ) → Loc → ℕ
counts_on m inner h c = cond (is_leaf m.shape inner (block_of m c)) (h c) 0

abbrev pub counts : Mesh → (Loc → ℕ) → Loc → ℕ
counts m h c = cond (is_leaf m.shape (is_inner m) (block_of m c)) (h c) 0

counts_block : (m : Mesh) → ((axis : ℕ) → axis < 3 → 1 ≤ cells_along m axis) → (inner : Loc → Bool) (l : Loc) (h : Loc → ℕ) → on_leaf m.shape inner (λ x. cell_sum m x h) l ≡ cell_sum m l (counts_on m inner h)
counts_block m some inner l h =
    let b : Bool = is_leaf m.shape inner l in
    all_or_none b
    ∙ sym (sum_to-same (block_size m) (λ p. counts_on m inner h (cell_at m l p)) (λ p. cond (is_leaf m.shape inner l) (h (cell_at m l p)) 0)
    (λ p small. ap (λ (x : Loc). cond (is_leaf m.shape inner x) (h (cell_at m l p)) 0) (block_of_cell m some l p small)))
  where
    all_or_none : (b : Bool) → cond b (cell_sum m l h) 0 ≡ sum_to (block_size m) (λ p. cond b (h (cell_at m l p)) 0)
    all_or_none true = refl
    all_or_none false = sym (sum_nothing (block_size m))

-- the sum over all cells of the leaves of a tree, level by level
pub cells_on_tree : (m : Mesh) → ((axis : ℕ) → axis < 3 → 1 ≤ cells_along m axis) → IsShape m.shape → (inner : Loc → Bool) → IsTree m.shape inner → (h : Loc → ℕ) →
    sum_over (leaves_of m.shape inner) (λ l. cell_sum m l h) ≡ sum_to 11 (λ i. lattice (cell_lattice m) i (counts_on m inner h))
unfolding leaves_of
cells_on_tree m some shape inner tree h =
    leaves_sum m.shape inner shape tree (λ l. cell_sum m l h) 10 refl
    ∙ sum_to-same 11 (λ i. lattice m.shape i (on_leaf m.shape inner (λ l. cell_sum m l h))) (λ i. lattice (cell_lattice m) i (counts_on m inner h))
    (λ i l. lattice_same m.shape i (on_leaf m.shape inner (λ x. cell_sum m x h)) (λ x. cell_sum m x (counts_on m inner h)) (omega arith) (λ x inside at. counts_block m some inner x h)
    ∙ blocks_of_cells m i (counts_on m inner h) (omega arith))

-- the sum over all cells of a mesh, level by level
pub cells_by_level : (m : Mesh) → IsMesh m → (h : Loc → ℕ) → sum_cells m h ≡ sum_to 11 (λ i. lattice (cell_lattice m) i (counts m h))
cells_by_level m mesh h =
    ap (λ (v : List Loc). sum_over v (λ l. cell_sum m l h)) mesh.leaves
    ∙ cells_on_tree m mesh.some_cells mesh.shape (is_inner m) mesh.tree h
