-- Where what does not stay is zero already, nothing is cut and nothing is dropped.
use Rattle.std.proofs.Common.{◌≡◌, ℕ, zero, suc, ◌+◌, ◌*◌, ◌/◌, ◌%◌, ◌^◌, ◌<◌, ◌≤◌, Bool, true, false, cond, List, [], ◌∷◌, length, map, refl, arith, ap, subst, sym, ◌∙◌, lit<}
use Rattle.std.specs.List.{list_any, range_with_len, slice_index_or}
use Rattle.std.proofs.Math.Nat.{mul-le-mul_left}
use Rattle.std.proofs.lemmas.Nat.{div_below, mod_below}
use Rattle.morton_order.specs.declared.space.Loc.{Loc}
use Rattle.morton_order.specs.Space.{IsIn, factor, root_along, same_loc}
use Rattle.morton_order.proofs.Any.{or_left, or_right}
use Rattle.morton_order.proofs.Touching.{same_loc-self}
use Rattle.block_tree.specs.Tree.{IsLeaf, is_listed}
use Rattle.block_tree.proofs.KeyOrder.{leaves_law}
use Rattle.problem_set.specs.Settings.{Settings}
use Rattle.mesh_rules.specs.Sums.{sum_over, table}
use Rattle.mesh_rules.specs.Mesh.{IsMesh, Mesh, OnLeaf, block_of, block_size, cell_at, cell_lattice, cells_along, filled, is_inner, leaf_total, place_of, stored}
use Rattle.mesh_rules.specs.Fields.{field_count}
use Rattle.mesh_rules.specs.Mask.{Mask, cut, leaf_dropped, stays}
use Rattle.mesh_laws.proofs.Fillings.{HasCells, stored_filled}
use Rattle.mesh_laws.proofs.Grids.{sum_zero}
use Rattle.mesh_laws.proofs.LeafSums.{block_of_cell}
use Rattle.mesh_laws.proofs.StoredCells.{cell_of_place, place_small}

-- a location is listed at a place
pub record ListedAt (xs : List Loc) (l : Loc) (i : ℕ) : Type 0 where
  pub small : i < length xs
  pub is : slice_index_or xs i l ≡ l

-- what does not stay is zero already
abbrev pub IsNothingOut : Settings → Mask → Mesh → Type 0
IsNothingOut q mask m = (f : ℕ) (l : Loc) (i place : ℕ) → f < field_count q → ListedAt m.leaves l i → place < block_size m → stays q m mask f l ≡ false → stored m f (cell_at m l place) ≡ 0

-- lists and tables of what is equal
map_items : {Y : Type 0} (xs : List Loc) (g h : Loc → Y) → ((l : Loc) (i : ℕ) → ListedAt xs l i → g l ≡ h l) → map g xs ≡ map h xs
map_items [] g h e = refl
map_items (x ∷ xs) g h e =
    let first : g x ≡ h x = e x 0 (record { small = omega arith; is = refl }) in
    let rest : map g xs ≡ map h xs = map_items xs g h (λ l i at. let s = at.small in e l (suc i) (record { small = omega arith; is = at.is })) in
    ap (λ y. y ∷ map g xs) first ∙ ap (λ ys. h x ∷ ys) rest

range_same : {Y : Type 0} (a n : ℕ) (g h : ℕ → Y) → ((i : ℕ) → i < a + n → g i ≡ h i) → map g (range_with_len a n) ≡ map h (range_with_len a n)
range_same a zero g h e = refl
range_same a (suc n) g h e =
    let first : g a ≡ h a = e a (omega arith) in
    let rest : map g (range_with_len (a + 1) n) ≡ map h (range_with_len (a + 1) n) = range_same (a + 1) n g h (λ i small. e i (omega arith)) in
    ap (λ y. y ∷ map g (range_with_len (a + 1) n)) first ∙ ap (λ ys. h a ∷ ys) rest

table_same : {Y : Type 0} (n : ℕ) (g h : ℕ → Y) → ((i : ℕ) → i < n → g i ≡ h i) → table n g ≡ table n h
table_same n g h e = range_same 0 n g h (λ i small. e i (omega arith))

-- nothing is cut
pub cut_same : (q : Settings) (m : Mesh) (each : ℕ → Loc → ℕ) (mask : Mask) → HasCells m → IsNothingOut q mask (filled m (field_count q) each) → cut q mask (filled m (field_count q) each) ≡ filled m (field_count q) each
cut_same q m each mask cells nothing =
    let after : Mesh = filled m (field_count q) each in
    let left : ℕ → Loc → ℕ = λ f c. cond (stays q after mask f (block_of after c)) (stored after f c) 0 in
    ap (λ (totals : List (List (List ℕ))). record m { totals = totals })
    (map_items m.leaves (λ l. table (field_count q) (λ f. table (block_size m) (λ place. left f (cell_at m l place)))) (λ l. table (field_count q) (λ f. table (block_size m) (λ place. each f (cell_at m l place))))
    (λ l i at. table_same (field_count q) (λ f. table (block_size m) (λ place. left f (cell_at m l place))) (λ f. table (block_size m) (λ place. each f (cell_at m l place)))
    (λ f within. table_same (block_size m) (λ place. left f (cell_at m l place)) (λ place. each f (cell_at m l place))
    (λ place small. item f l i place within at small))))
  where
    item : (f : ℕ) (l : Loc) (i place : ℕ) → f < field_count q → ListedAt m.leaves l i → place < block_size m →
        cond (stays q (filled m (field_count q) each) mask f (block_of m (cell_at m l place))) (stored (filled m (field_count q) each) f (cell_at m l place)) 0 ≡ each f (cell_at m l place)
    item f l i place within at small =
        ap (λ (x : Loc). cond (stays q (filled m (field_count q) each) mask f x) (stored (filled m (field_count q) each) f (cell_at m l place)) 0) (block_of_cell m cells l place small)
        ∙ by (stays q (filled m (field_count q) each) mask f l) refl
        ∙ stored_filled m cells (field_count q) f each l place i within small at.small at.is
      where
        by : (b : Bool) → stays q (filled m (field_count q) each) mask f l ≡ b → cond b (stored (filled m (field_count q) each) f (cell_at m l place)) 0 ≡ stored (filled m (field_count q) each) f (cell_at m l place)
        by true e = refl
        by false e = sym (nothing f l i place within at small e)

-- nothing is dropped on a leaf
pub none_dropped : (q : Settings) (m : Mesh) (mask : Mask) (f : ℕ) (l : Loc) (i : ℕ) → IsNothingOut q mask m → f < field_count q → ListedAt m.leaves l i → leaf_dropped q mask m f l ≡ 0
none_dropped q m mask f l i nothing within at = by (stays q m mask f l) refl
  where
    by : (b : Bool) → stays q m mask f l ≡ b → leaf_dropped q mask m f l ≡ 0
    by true e = ap (λ (t : Bool). cond t 0 (leaf_total m f l)) e
    by false e = ap (λ (t : Bool). cond t 0 (leaf_total m f l)) e ∙ sum_zero (block_size m) (λ place. stored m f (cell_at m l place)) (λ place small. nothing f l i place within at small e)

-- sums of nothing
pub over_nothing : (xs : List Loc) (g : Loc → ℕ) → ((l : Loc) (i : ℕ) → ListedAt xs l i → g l ≡ 0) → sum_over xs g ≡ 0
over_nothing [] g e = refl
over_nothing (x ∷ xs) g e =
    let first : g x ≡ 0 = e x 0 (record { small = omega arith; is = refl }) in
    let rest : sum_over xs g ≡ 0 = over_nothing xs g (λ l i at. let s = at.small in e l (suc i) (record { small = omega arith; is = at.is })) in
    omega arith

-- the cells of a listed leaf
listed_at : (xs : List Loc) (l : Loc) (i : ℕ) → ListedAt xs l i → is_listed xs l ≡ true
listed_at [] l i at = let s = at.small in absurd (omega arith)
listed_at (x ∷ xs) l zero at = or_left (same_loc l x) (list_any (same_loc l) xs) (ap (same_loc l) at.is ∙ same_loc-self l)
listed_at (x ∷ xs) l (suc i) at = let s = at.small in or_right (same_loc l x) (list_any (same_loc l) xs) (listed_at xs l i (record { small = omega arith; is = at.is }))

pub leaf_at : (m : Mesh) (l : Loc) (i : ℕ) → IsMesh m → ListedAt m.leaves l i → IsLeaf m.shape (is_inner m) l
leaf_at m l i mesh at = ((leaves_law m.shape (is_inner m) mesh.shape mesh.tree).leaves l).0 (ap (λ (v : List Loc). is_listed v l) (sym mesh.leaves) ∙ listed_at m.leaves l i at)

pub on_leaf_at : (m : Mesh) (l : Loc) (i place : ℕ) → IsMesh m → ListedAt m.leaves l i → place < block_size m → OnLeaf m (cell_at m l place)
on_leaf_at m l i place mesh at small = subst (λ (b : Loc). IsLeaf m.shape (is_inner m) b) (sym (block_of_cell m mesh.some_cells l place small)) (leaf_at m l i mesh at)

below_end : (x r n root parts : ℕ) → r < n → x < root * parts → x * n + r < root * n * parts
below_end x r n root parts small h =
    let up : x + 1 ≤ root * parts = omega arith in
    let e : n * (x + 1) ≤ n * (root * parts) = mul-le-mul_left n up in
    omega arith

pub cell_inside : (m : Mesh) (l : Loc) (place : ℕ) → IsMesh m → IsIn m.shape l → place < block_size m → IsIn (cell_lattice m) (cell_at m l place)
cell_inside m l place mesh inside small =
    let n1 : ℕ = cells_along m 0 in
    let n2 : ℕ = cells_along m 1 in
    let n3 : ℕ = cells_along m 2 in
    let s1 = mesh.some_cells 0 (lit< tt) in
    let s2 = mesh.some_cells 1 (lit< tt) in
    let q : place < n3 * n2 * n1 = omega arith in
    let r : place / n1 < n3 * n2 = div_below place n1 (n3 * n2) (omega arith) q in
    let t : place / n1 / n2 < n3 = div_below (place / n1) n2 n3 (omega arith) r in
    record {
      level = inside.level;
      within1 = below_end l.l1 (place % n1) n1 (root_along m.shape 0) (factor m.shape.dims 0 ^ l.level) (mod_below place n1 s1) inside.within1;
      within2 = below_end l.l2 (place / n1 % n2) n2 (root_along m.shape 1) (factor m.shape.dims 1 ^ l.level) (mod_below (place / n1) n2 s2) inside.within2;
      within3 = below_end l.l3 (place / n1 / n2) n3 (root_along m.shape 2) (factor m.shape.dims 2 ^ l.level) t inside.within3;
    }

-- what holds of each place of a block holds of each cell of the block
pub all_cells : (m : Mesh) (f : ℕ) (l : Loc) → IsMesh m → ((place : ℕ) → place < block_size m → stored m f (cell_at m l place) ≡ 0) → (d : Loc) → block_of m d ≡ l → stored m f d ≡ 0
all_cells m f l mesh none d is =
    subst (λ (x : Loc). stored m f x ≡ 0) (ap (λ (b : Loc). cell_at m b (place_of m d)) (sym is) ∙ cell_of_place m mesh d) (none (place_of m d) (place_small m mesh d))
