-- The own cells of leaves are those of the mesh.
use Rattle.std.proofs.Common.{◌≡◌, inl, inr, ℕ, zero, suc, ◌+◌, ◌*◌, ◌%◌, ◌^◌, ◌<◌, ◌≤◌, List, [], ◌∷◌, All, map, length, refl, arith, ap, subst, sym, ◌∙◌, ⊎_elim, slice_index}
use Rattle.std.specs.Prelude.{slice_set}
use Rattle.std.specs.List.{slice_index_or}
use Rattle.std.specs.List.Sorted.{IsStrictlyIncreasing}
use Rattle.std.proofs.lemmas.Bool.{cases_eq, cases_lt}
use Rattle.std.proofs.lemmas.List.{get_or-map, length-map, length-set}
use Rattle.std.proofs.lemmas.Nat.{mod-mul-add}
use Rattle.morton_order.specs.declared.space.Loc.{Loc}
use Rattle.morton_order.specs.Key.{key}
use Rattle.block_tree.proofs.KeyOrder.{leaves_law}
use Rattle.mesh_rules.specs.Mesh.{IsMesh, Mesh, block_of, cells_along, is_inner, leaf_number, place_of, totals_on}
use Rattle.mesh_laws.proofs.Fillings.{number_of}
use Rattle.block_layout.specs.declared.layout.Layout.{Layout}
use Rattle.block_layout.specs.Indices.{IsWithin, count_of, number_of as index_number}
use Rattle.block_layout.specs.Layouts.{interior_len, len}
use Rattle.block_layout.specs.Regions.{interior}
use Rattle.block_geometry.specs.Blocks.{cell_in}
use Rattle.block_geometry.specs.Contents.{HasInterior}
use Rattle.block_geometry.proofs.Cells.{block_of_cell_in, cell_inside}
use Rattle.block_geometry.proofs.Seen.{in_mesh, own_look}
use Rattle.block_regions.specs.Written.{HasRegion, StaysOffRegion}
use Rattle.restrict_prolong.specs.Refined.{at_index}
use Rattle.dense_mesh.specs.Meshes.{totals_in}
use Rattle.dense_mesh.specs.Ghosts.{AreGhostLists, list_at}
use Rattle.dense_mesh.proofs.Lists.{lists_are_totals}
use Rattle.dense_exchange.specs.declared.field_mesh.FieldMesh.{FieldMesh}
use Rattle.dense_exchange.specs.FieldMeshes.{CanExchange, HoldOwn, block_on, leaf_count, leaf_on, mesh_in}
use Rattle.dense_exchange.proofs.Numbers.{nowhere}
use Rattle.dense_exchange.proofs.OnMeshes.{block_of as sound_of, field_in, same_item, total_small}
use Rattle.dense_exchange.proofs.Received.{others_at, written_at}
use Rattle.letter_laws.proofs.Bounds.{looks_bounded, written_below}

-- in a list that rises step by step each later item is greater
rising_all : (xs : List ℕ) → IsStrictlyIncreasing xs → (i j : ℕ) → i < j → j < length xs → slice_index xs i < slice_index xs j
rising_all xs up i zero h k = absurd (omega arith)
rising_all xs up i (suc j) h k =
    let e : j + 1 ≡ suc j = omega arith in
    let step : slice_index xs j < slice_index xs (suc j) = subst (λ (n : ℕ). slice_index xs j < slice_index xs n) e (up j (omega arith)) in
    ⊎_elim
    (λ (below : i < j). let before = rising_all xs up i j below (omega arith) in omega arith)
    (λ (last : j ≤ i). let same : j ≡ i = omega arith in subst (λ (n : ℕ). slice_index xs n < slice_index xs (suc j)) same step)
    (cases_lt i j)

same_leaf : (xs : List Loc) (i : ℕ) (d e : Loc) → i < length xs → slice_index_or xs i d ≡ slice_index_or xs i e
same_leaf [] i d e h = absurd (omega (arith, h))
same_leaf (x ∷ xs) zero d e h = refl
same_leaf (x ∷ xs) (suc i) d e h = same_leaf xs i d e (omega (arith, h))

-- the number of a leaf is its place in the list
pub number_is : (m : Mesh) → IsMesh m → (leaf : ℕ) → leaf < length m.leaves → leaf_number m (slice_index_or m.leaves leaf nowhere) ≡ leaf
number_is m mesh leaf inside =
    let xs = m.leaves in
    let l = slice_index_or xs leaf nowhere in
    let at : slice_index_or xs leaf l ≡ l = same_leaf xs leaf l nowhere inside in
    let n = leaf_number m l in
    let numbered = number_of l xs leaf inside at in
    let many = length-map xs key in
    let up : IsStrictlyIncreasing (map key xs) = subst (λ (ys : List Loc). IsStrictlyIncreasing (map key ys)) (sym mesh.leaves) (leaves_law m.shape (is_inner m) mesh.shape mesh.tree).rising in
    let here = get_or-map key xs leaf l 0 inside ∙ ap key at in
    let there = get_or-map key xs n l 0 numbered.small ∙ ap key numbered.is in
    ⊎_elim
    (λ (below : n < leaf). absurd (omega (arith, rising_all (map key xs) up n leaf below (omega (arith, many, inside)), here, there)))
    (λ (above : leaf ≤ n).
    ⊎_elim
    (λ (more : leaf < n). absurd (omega (arith, rising_all (map key xs) up leaf n more (omega (arith, many, numbered.small)), here, there)))
    (λ (most : n ≤ leaf). omega arith) (cases_lt leaf n))
    (cases_lt n leaf)

-- where the cell of an index stands in the list of its block
place_is : (m : Mesh) (l : Loc) (i : List ℕ) → IsWithin m.cells i → place_of m (cell_in m l i) ≡ index_number m.cells i
place_is m l i w =
    let n1 : ℕ = cells_along m 0 in
    let n2 : ℕ = cells_along m 1 in
    let n3 : ℕ = cells_along m 2 in
    ap (λ v. v + n1 * ((l.l2 * n2 + slice_index i 1) % n2 + n2 * ((l.l3 * n3 + slice_index i 2) % n3))) (mod-mul-add l.l1 n1 (slice_index i 0) w.along1)
    ∙ ap (λ v. slice_index i 0 + n1 * (v + n2 * ((l.l3 * n3 + slice_index i 2) % n3))) (mod-mul-add l.l2 n2 (slice_index i 1) w.along2)
    ∙ ap (λ v. slice_index i 0 + n1 * (slice_index i 1 + n2 * v)) (mod-mul-add l.l3 n3 (slice_index i 2) w.along3)

-- how long the list of the field on a leaf is

pub totals_long : (e : FieldMesh) (leaf : ℕ) → CanExchange e → leaf < leaf_count e → length (totals_in e.lists.now e.field leaf) ≡ interior_len e.layout.now
totals_long e leaf on few =
    let is = lists_are_totals e.tree.now e.problem.now.cells e.lists.now leaf e.field few (subst (λ v. e.field < v) (sym on.mesh.fields) (field_in e on)) in
    ap length (sym is) ∙ on.mesh.mesh.cell_lists leaf e.field few (field_in e on) ∙ ap count_of (sym on.mesh.cells)

-- own cells that are copied are the mesh's
pub copied : (e : FieldMesh) (leaf : ℕ) (new : List ℕ) → CanExchange e → leaf < leaf_count e → HasRegion e.layout.now (interior e.layout.now) (at_index e.layout.now.cells (totals_in e.lists.now e.field leaf)) new → HasInterior (block_on e leaf) new
copied e leaf new on few has i w =
    let m : Mesh = mesh_in e in
    let l : Loc = leaf_on e leaf in
    let mesh = on.mesh.mesh.mesh in
    let within : IsWithin m.cells i = in_mesh (block_on e leaf) i (sound_of e leaf on few) w in
    let is = lists_are_totals e.tree.now e.problem.now.cells e.lists.now leaf e.field few (subst (λ v. e.field < v) (sym on.mesh.fields) (field_in e on)) in
    has i w
    ∙ ap (λ (n : List ℕ). slice_index (totals_in e.lists.now e.field leaf) (index_number n i)) on.mesh.cells
    ∙ ap (λ (v : List ℕ). slice_index v (index_number m.cells i)) (sym is)
    ∙ ap (λ n. slice_index (totals_on m n e.field) (index_number m.cells i)) (sym (number_is m mesh leaf few))
    ∙ ap (λ (v : Loc). slice_index (totals_on m (leaf_number m v) e.field) (index_number m.cells i)) (sym (block_of_cell_in m l i within))
    ∙ ap (slice_index (totals_on m (leaf_number m (block_of m (cell_in m l i))) e.field)) (sym (place_is m l i within))

-- so they are small
own_small : (e : FieldMesh) (leaf : ℕ) (new : List ℕ) → CanExchange e → (few : leaf < leaf_count e) → HasRegion e.layout.now (interior e.layout.now) (at_index e.layout.now.cells (totals_in e.lists.now e.field leaf)) new →
    (i : List ℕ) → IsWithin e.layout.now.cells i → at_index e.layout.now.cells (totals_in e.lists.now e.field leaf) i < 2 ^ 62
own_small e leaf new on few has i w =
    let m : Mesh = mesh_in e in
    let l : Loc = leaf_on e leaf in
    let sound = sound_of e leaf on few in
    let within : IsWithin m.cells i = in_mesh (block_on e leaf) i sound w in
    let most = looks_bounded m e.field (cell_in m l i) on.mesh.mesh.mesh (cell_inside m l i sound.leaf.inside within) in
    let top = total_small e on in
    subst (λ v. v < 2 ^ 62) (own_look (block_on e leaf) i sound w ∙ sym (copied e leaf new on few has i w) ∙ has i w) (omega (arith, most, top))

-- the lists of the first leaves have their own cells
pub record Copying (e : FieldMesh) (k : ℕ) (ghosts : List (List ℕ)) : Type 0 where
  pub lists : AreGhostLists e.layout.now (leaf_count e) ghosts
  pub own : (leaf : ℕ) → leaf < k → HasInterior (block_on e leaf) (list_at ghosts leaf)

pub copying_starts : (e : FieldMesh) (ghosts : List (List ℕ)) → AreGhostLists e.layout.now (leaf_count e) ghosts → Copying e 0 ghosts
copying_starts e ghosts lists = record { lists = lists; own = λ leaf h. absurd (omega arith) }

pub copying_goes_on : (e : FieldMesh) (k : ℕ) (ghosts : List (List ℕ)) (own new : List ℕ) → CanExchange e → k < leaf_count e → Copying e k ghosts → own ≡ totals_in e.lists.now e.field k → length new ≡ length (list_at ghosts k) →
    HasRegion e.layout.now (interior e.layout.now) (at_index e.layout.now.cells own) new → StaysOffRegion e.layout.now (interior e.layout.now) (list_at ghosts k) new → Copying e (k + 1) (slice_set ghosts k new)
copying_goes_on e k ghosts own new on few before is long has stays =
    let l : Layout = e.layout.now in
    let lists = before.lists in
    let within : k < length ghosts = subst (λ v. k < v) (sym lists.count) few in
    let there : HasRegion l (interior l) (at_index l.cells (totals_in e.lists.now e.field k)) new = subst (λ (v : List ℕ). HasRegion l (interior l) (at_index l.cells v) new) is has in
    let small : All (λ total. total < 2 ^ 62) new = written_below l (interior l) (at_index l.cells (totals_in e.lists.now e.field k)) (2 ^ 62) (list_at ghosts k) new long there stays (own_small e k new on few there) (lists.small k few) in
    let by : (P : ℕ → List ℕ → Type 0) (n : ℕ) → P k new → ((leaf : ℕ) → leaf < n → ¬ (leaf ≡ k) → P leaf (list_at ghosts leaf)) → (leaf : ℕ) → leaf < n → P leaf (list_at (slice_set ghosts k new) leaf) =
    λ P n here others leaf less. elim (cases_eq leaf k) [
      | inl is ↦ subst (λ v. P v (list_at (slice_set ghosts k new) v)) (sym is) (subst (P k) (sym (written_at ghosts k new within)) here)
      | inr differ ↦ subst (P leaf) (sym (others_at ghosts k new leaf differ)) (others leaf less differ)
    ] in
    record {
      lists = record {
        count = length-set ghosts k new ∙ lists.count;
        sizes = by (λ leaf list. length list ≡ len l) (leaf_count e) (long ∙ lists.sizes k few) (λ leaf less d. lists.sizes leaf less);
        small = by (λ leaf list. All (λ total. total < 2 ^ 62) list) (leaf_count e) small (λ leaf less d. lists.small leaf less);
      };
      own = by (λ leaf list. HasInterior (block_on e leaf) list) (k + 1) (copied e k new on few there) (λ leaf less d. before.own leaf (omega arith));
    }

pub copying_ends : (e : FieldMesh) (ghosts : List (List ℕ)) → Copying e (leaf_count e) ghosts → HoldOwn e ghosts
copying_ends e ghosts x = record { lists = x.lists; own = x.own }

-- the list of a leaf as it is read
pub own_read : (e : FieldMesh) (leaf : ℕ) (row list : List (List ℕ)) (own : List ℕ) → CanExchange e → leaf < leaf_count e → list ≡ slice_index_or e.lists.now e.field row → row ≡ slice_index_or e.lists.now e.field row → own ≡ slice_index_or list leaf own → own ≡ totals_in e.lists.now e.field leaf
own_read e leaf row list own on few listed is at =
    let field = field_in e on in
    let there : list ≡ slice_index_or e.lists.now e.field [] = listed ∙ sym is ∙ same_item e.lists.now e.field row [] (subst (λ v. e.field < v) (sym on.mesh.fields) field) is in
    let long : leaf < length list = subst (λ v. leaf < v) (sym (ap length there ∙ on.mesh.leaf_lists e.field field)) few in
    same_item list leaf own [] long at ∙ ap (λ (v : List (List ℕ)). slice_index_or v leaf []) there
