-- The list of a leaf has the looks in the leaf's cells.
use Rattle.std.proofs.Common.{◌≡◌, ℕ, ◌+◌, ◌*◌, ◌%◌, ◌<◌, Bool, true, false, cond, Some, None, List, length, slice_index, refl, arith, ap, subst, sym, ◌∙◌}
use Rattle.std.specs.List.{position_or_len}
use Rattle.std.proofs.lemmas.Nat.{mod-mul-add}
use Rattle.morton_order.specs.declared.space.Loc.{Loc}
use Rattle.morton_order.specs.Space.{same_loc}
use Rattle.block_tree.specs.Tree.{IsLeaf, is_listed}
use Rattle.block_tree.specs.Blocks.{TreeOfBlocks, leaves}
use Rattle.block_tree.specs.Nodes.{number_in}
use Rattle.block_tree.proofs.LeafList.{listed_leaf}
use Rattle.block_tree.proofs.Numbers.{number_below, number_is}
use Rattle.problem_set.specs.Settings.{Settings}
use Rattle.mesh_rules.specs.Sums.{table}
use Rattle.mesh_rules.specs.Mesh.{IsMesh, Mesh, block_of, block_size, cell_at, cells_along, is_inner, leaf_number, place_of, stored, totals_on}
use Rattle.mesh_rules.specs.Fields.{field_count}
use Rattle.mesh_rules.specs.Look.{look}
use Rattle.mesh_laws.proofs.Looks.{look_law}
use Rattle.block_layout.specs.declared.layout.Layout.{Layout}
use Rattle.block_layout.specs.Indices.{IsWithin, number_of}
use Rattle.block_layout.specs.Laws.{IsSame}
use Rattle.block_geometry.specs.Blocks.{cell_in}
use Rattle.block_geometry.proofs.Cells.{block_of_cell_in}
use Rattle.restrict_prolong.proofs.Wholes.{from_whole, whole_address}
use Rattle.morton_order.proofs.Touching.{same_as}
use Rattle.dense_mesh.specs.Meshes.{IsMeshIn, mesh_of, totals_in}
use Rattle.dense_mesh.proofs.Lists.{lists_are_totals}

-- what a mesh shows of a field in the cells of a block
abbrev pub look_list : Mesh → ℕ → Loc → List ℕ
look_list m f l = table (block_size m) (λ place. look m f (cell_at m l place))

-- a list has the looks of a field in the cells of a block
abbrev pub HasLooks : Mesh → ℕ → Loc → List ℕ → Type 0
HasLooks m f l list = (q : List ℕ) → IsWithin m.cells q → slice_index list (number_of m.cells q) ≡ look m f (cell_in m l q)

-- so it is the list of the looks
pub looks_are : (m : Mesh) (f : ℕ) (l : Loc) (list : List ℕ) → length list ≡ block_size m → HasLooks m f l list → list ≡ look_list m f l
looks_are m f l list long has = from_whole m.cells (λ q. look m f (cell_in m l q)) list long (λ q w. ap (slice_index list) (whole_address m.cells q) ∙ has q w)

-- equal indices are those of one cell
pub same_cell : (m : Mesh) (l : Loc) (i q : List ℕ) → IsSame i q → cell_in m l i ≡ cell_in m l q
same_cell m l i q e = same_as (cell_in m l q) (cell_in m l i) refl (ap (λ v. l.l1 * cells_along m 0 + v) e.along1) (ap (λ v. l.l2 * cells_along m 1 + v) e.along2) (ap (λ v. l.l3 * cells_along m 2 + v) e.along3)

pub same_place : (n i q : List ℕ) → IsSame i q → number_of n i ≡ number_of n q
same_place n i q e =
    ap (λ v. v + slice_index n 0 * (slice_index i 1 + slice_index n 1 * slice_index i 2)) e.along1
    ∙ ap (λ v. slice_index q 0 + slice_index n 0 * (v + slice_index n 1 * slice_index i 2)) e.along2
    ∙ ap (λ v. slice_index q 0 + slice_index n 0 * (slice_index q 1 + slice_index n 1 * v)) e.along3

-- the place of a cell of a block
pub place_in_block : (m : Mesh) (l : Loc) (q : List ℕ) → IsWithin m.cells q → place_of m (cell_in m l q) ≡ number_of m.cells q
place_in_block m l q w =
    ap (λ v. v + cells_along m 0 * ((l.l2 * cells_along m 1 + slice_index q 1) % cells_along m 1 + cells_along m 1 * ((l.l3 * cells_along m 2 + slice_index q 2) % cells_along m 2))) (mod-mul-add l.l1 (cells_along m 0) (slice_index q 0) w.along1)
    ∙ ap (λ v. slice_index q 0 + cells_along m 0 * (v + cells_along m 1 * ((l.l3 * cells_along m 2 + slice_index q 2) % cells_along m 2))) (mod-mul-add l.l2 (cells_along m 1) (slice_index q 1) w.along2)
    ∙ ap (λ v. slice_index q 0 + cells_along m 0 * (slice_index q 1 + cells_along m 1 * v)) (mod-mul-add l.l3 (cells_along m 2) (slice_index q 2) w.along3)

-- what a number of a location says
pub record IsNumber (xs : List Loc) (l : Loc) (leaf : ℕ) : Type 0 where
  pub listed : is_listed xs l ≡ true
  pub place : position_or_len (same_loc l) xs ≡ leaf

pub number_says : (xs : List Loc) (l : Loc) (leaf : ℕ) → number_in xs l ≡ Some leaf → IsNumber xs l leaf
number_says xs l leaf h = by (is_listed xs l) refl (sym (number_is xs l) ∙ h)
  where
    some_is : (a b : ℕ) → Some a ≡ Some b → a ≡ b
    some_is a b e = cc

    none_is_not : (a : ℕ) → None ≡ Some a → ⊥
    none_is_not a e = cc

    by : (b : Bool) → is_listed xs l ≡ b → cond b (Some (position_or_len (same_loc l) xs)) None ≡ Some leaf → IsNumber xs l leaf
    by true e k = record { listed = e; place = some_is (position_or_len (same_loc l) xs) leaf k }
    by false e k = absurd (none_is_not leaf k)

-- a location with a number is a leaf
pub numbered_leaf : (p : Settings) (t : TreeOfBlocks) (layout : Layout) (lists : List (List (List ℕ))) → IsMeshIn p t layout lists → (l : Loc) (leaf : ℕ) → number_in (leaves t) l ≡ Some leaf → IsLeaf t.shape (is_listed t.inner) l
numbered_leaf p t layout lists is l leaf h = listed_leaf t.shape (is_listed t.inner) is.mesh.mesh.tree l (number_says (leaves t) l leaf h).listed

-- the look in a cell of a leaf
pub look_on_leaf : (m : Mesh) (f : ℕ) (l : Loc) (q : List ℕ) → IsMesh m → IsLeaf m.shape (is_inner m) l → IsWithin m.cells q → look m f (cell_in m l q) ≡ stored m f (cell_in m l q)
look_on_leaf m f l q mesh leaf w = (look_law m f (cell_in m l q) mesh).at_leaf (subst (λ (v : Loc). IsLeaf m.shape (is_inner m) v) (sym (block_of_cell_in m l q w)) leaf)

-- the list of a leaf has the looks in its cells
pub leaf_looks : (p : Settings) (t : TreeOfBlocks) (layout : Layout) (lists : List (List (List ℕ))) → IsMeshIn p t layout lists → (f leaf : ℕ) (l : Loc) → f < field_count p → number_in (leaves t) l ≡ Some leaf →
    HasLooks (mesh_of t p.cells lists) f l (totals_in lists f leaf)
leaf_looks p t layout lists is f leaf l some h = λ q w.
    let m : Mesh = mesh_of t p.cells lists in
    let number = number_says (leaves t) l leaf h in
    let small : f < length lists = omega (arith, is.fields) in
    let at : leaf_number m (block_of m (cell_in m l q)) ≡ leaf = ap (leaf_number m) (block_of_cell_in m l q w) ∙ number.place in
    sym (look_on_leaf m f l q is.mesh.mesh (numbered_leaf p t layout lists is l leaf h) w
    ∙ ap (λ n. slice_index (totals_on m n f) (place_of m (cell_in m l q))) at
    ∙ ap (slice_index (totals_on m leaf f)) (place_in_block m l q w)
    ∙ ap (λ (v : List ℕ). slice_index v (number_of m.cells q)) (lists_are_totals t p.cells lists leaf f (number_below (leaves t) l leaf h) small))
