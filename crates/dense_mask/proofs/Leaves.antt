-- Which number a leaf has, and what is stored there.
use Rattle.std.proofs.Common.{◌≡◌, ℕ, zero, suc, ◌+◌, ◌<◌, Bool, true, false, cond, not, List, [], ◌∷◌, length, refl, arith, ap, sym, ◌∙◌, subst}
use Rattle.std.specs.Prelude.{slice_index}
use Rattle.std.specs.List.{AllByRecursion, IsDistinct, position_or_len, slice_index_or}
use Rattle.std.proofs.lemmas.Bool.{false≢true}
use Rattle.morton_order.specs.declared.space.Loc.{Loc}
use Rattle.morton_order.specs.Space.{same_loc}
use Rattle.morton_order.proofs.Touching.{same_loc-is, same_loc-self}
use Rattle.block_tree.specs.Blocks.{TreeOfBlocks, leaves}
use Rattle.block_tree.proofs.Numbers.{distinct_leaves}
use Rattle.problem_set.specs.Settings.{Settings}
use Rattle.mesh_rules.specs.Sums.{table}
use Rattle.mesh_rules.specs.Fields.{field_count}
use Rattle.mesh_rules.specs.Mesh.{IsMesh, Mesh, block_size, cell_at, is_inner, leaf_number, place_of, stored, totals_on}
use Rattle.mesh_laws.proofs.LeafSums.{block_of_cell}
use Rattle.mesh_laws.proofs.Fillings.{place_of_cell}
use Rattle.block_layout.specs.declared.layout.Layout.{Layout}
use Rattle.dense_mesh.specs.Meshes.{IsMeshIn, mesh_of, totals_in}
use Rattle.dense_mesh.proofs.Tables.{table_by}
use Rattle.dense_mesh.proofs.Lists.{lists_are_totals}

-- a location for numbers that no leaf has
abbrev pub origin : Loc
origin = record { level = 0; l1 = 0; l2 = 0; l3 = 0 }

-- the leaf with a number
abbrev pub leaf_at : Mesh → ℕ → Loc
leaf_at m leaf = slice_index_or m.leaves leaf origin

at_each : (P : Loc → Type 0) (xs : List Loc) (i : ℕ) (d : Loc) → AllByRecursion P xs → i < length xs → P (slice_index_or xs i d)
at_each P [] i d h small = absurd (omega arith)
at_each P (x ∷ xs) zero d h small = h.0
at_each P (x ∷ xs) (suc i) d h small = at_each P xs i d h.1 (omega arith)

differ_back : (l m : Loc) → same_loc l m ≡ false → same_loc m l ≡ false
differ_back l m h = by (same_loc m l) refl
  where
    by : (b : Bool) → same_loc m l ≡ b → b ≡ false
    by true e = absurd (false≢true (sym h ∙ ap (same_loc l) (same_loc-is m l e) ∙ same_loc-self l))
    by false e = refl

number_here : (xs : List Loc) (i : ℕ) (d : Loc) → IsDistinct same_loc xs → i < length xs → position_or_len (same_loc (slice_index_or xs i d)) xs ≡ i
unfolding IsDistinct
number_here [] i d h small = absurd (omega arith)
number_here (x ∷ xs) zero d h small = ap (λ (b : Bool). cond (not b) (1 + position_or_len (same_loc x) xs) 0) (same_loc-self x)
number_here (x ∷ xs) (suc i) d h small =
    let y : Loc = slice_index_or xs i d in
    let e = number_here xs i d h.1 (omega arith) in
    let one : 1 + position_or_len (same_loc y) xs ≡ suc i = omega arith in
    ap (λ (b : Bool). cond (not b) (1 + position_or_len (same_loc y) xs) 0) (differ_back x y (at_each (λ z. same_loc x z ≡ false) xs i d h.0 (omega arith))) ∙ one

pub number_of_leaf : (m : Mesh) → IsMesh m → (leaf : ℕ) → leaf < length m.leaves → leaf_number m (leaf_at m leaf) ≡ leaf
number_of_leaf m mesh leaf small =
    number_here m.leaves leaf origin (subst (λ (v : List Loc). IsDistinct same_loc v) (sym mesh.leaves) (distinct_leaves m.shape (is_inner m) mesh.shape mesh.tree)) small

-- what is stored in a cell of a leaf stands in the leaf's list
pub stored_on_leaf : (m : Mesh) → IsMesh m → (f leaf place : ℕ) → leaf < length m.leaves → place < block_size m →
    stored m f (cell_at m (leaf_at m leaf) place) ≡ slice_index (totals_on m leaf f) place
stored_on_leaf m mesh f leaf place small inside =
    let l : Loc = leaf_at m leaf in
    let c : Loc = cell_at m l place in
    ap (λ (x : Loc). slice_index (totals_on m (leaf_number m x) f) (place_of m c)) (block_of_cell m mesh.some_cells l place inside)
    ∙ ap (λ (n : ℕ). slice_index (totals_on m n f) (place_of m c)) (number_of_leaf m mesh leaf small)
    ∙ ap (λ (n : ℕ). slice_index (totals_on m leaf f) n) (place_of_cell m mesh.some_cells l place inside)

-- the cells of a leaf
abbrev pub row_of : Mesh → (Loc → ℕ) → ℕ → List ℕ
row_of m each leaf = table (block_size m) (λ place. each (cell_at m (leaf_at m leaf) place))

-- what lists have of a field on a leaf
pub record HasRow (m : Mesh) (f leaf : ℕ) (cells : List ℕ) : Type 0 where
  pub long : length cells ≡ block_size m
  pub row : row_of m (stored m f) leaf ≡ cells

pub has_row : (p : Settings) (t : TreeOfBlocks) (l : Layout) (lists : List (List (List ℕ))) → IsMeshIn p t l lists → (f leaf : ℕ) → f < field_count p → leaf < length (leaves t) →
    HasRow (mesh_of t p.cells lists) f leaf (totals_in lists f leaf)
has_row p t l lists is f leaf some small =
    let m : Mesh = mesh_of t p.cells lists in
    let many = is.fields in
    let there : totals_on m leaf f ≡ totals_in lists f leaf = lists_are_totals t p.cells lists leaf f small (omega arith) in
    let long : length (totals_in lists f leaf) ≡ block_size m = ap (λ (v : List ℕ). length v) (sym there) ∙ is.mesh.cell_lists leaf f small some in
    record {
      long = long;
      row = sym (table_by (totals_in lists f leaf) (block_size m) (λ place. stored m f (cell_at m (leaf_at m leaf) place)) 0 long
          (λ place inside. ap (λ (v : List ℕ). slice_index v place) (sym there) ∙ sym (stored_on_leaf m is.mesh.mesh f leaf place small inside)));
    }
