-- The lists by the boxes are the opening mesh.
use Rattle.std.proofs.Common.{◌≡◌, ◌==◌, ℕ, zero, suc, ◌+◌, ◌*◌, ◌<◌, ◌≤◌, ◌^◌, Bool, true, false, cond, ◌&&◌, ◌||◌, nat_eq, rules, List, [], ◌∷◌, length, map, refl, arith, ap, subst, sym, ◌∙◌}
use Rattle.std.specs.Prelude.{sum_by}
use Rattle.std.specs.List.{filter, slice_index_or}
use Rattle.std.proofs.Math.Nat.{mul-le-mul_right}
use Rattle.std.proofs.lemmas.Bool.{ne_eqb}
use Rattle.std.proofs.lemmas.List.{ext_get_or, get_or-map, length-map}
use Rattle.std.proofs.lemmas.List.Elements.{All-get_or}
use Rattle.std.proofs.lemmas.List.Sums.{sum_by-cons}
use Rattle.std.proofs.lemmas.Option.{slice_get-get_or}
use Rattle.mesh_num.specs.Share.{share}
use Rattle.morton_order.specs.declared.space.Loc.{Loc}
use Rattle.morton_order.specs.Space.{IsIn, child_number, parent, parts}
use Rattle.morton_order.proofs.Family.{parent_inside}
use Rattle.block_tree.specs.Tree.{IsTree, is_listed}
use Rattle.block_tree.specs.Leaves.{inner_of, leaves_of}
use Rattle.block_tree.specs.Blocks.{TreeOfBlocks, leaves, tree_with}
use Rattle.block_tree.proofs.InnerList.{inner_test}
use Rattle.block_tree.proofs.LeafList.{listed_leaf}
use Rattle.deck_entries.specs.declared.entries.StartBox.{StartBox}
use Rattle.problem_set.specs.declared.problem.Problem.{Problem}
use Rattle.problem_set.specs.Rates.{box_total, span}
use Rattle.problem_set.specs.SettingsOf.{settings_of}
use Rattle.deck_entries.specs.SoundEntries.{IsBox}
use Rattle.mesh_rules.specs.Sums.{sum_over}
use Rattle.mesh_rules.specs.Mesh.{Mesh, OnLeaf, cell_at, cell_lattice}
use Rattle.mesh_rules.specs.Fields.{field_count}
use Rattle.mesh_rules.specs.Look.{look}
use Rattle.mesh_rules.specs.Remesh.{remapped}
use Rattle.mesh_rules.specs.Opening.{holds, opening_mesh, opening_total, opening_tree, root_mesh}
use Rattle.mesh_laws.proofs.Adjacent.{block_inside}
use Rattle.mesh_laws.proofs.Looks.{look_law}
use Rattle.mesh_laws.proofs.StoredCells.{stored_at}
use Rattle.run_laws.proofs.RunTrees.{opening_least, root_is_mesh}
use Rattle.block_layout.specs.Indices.{count_of, index_of}
use Rattle.block_layout.proofs.Boxes.{index_below}
use Rattle.block_geometry.proofs.Cells.{cell_inside}
use Rattle.dense_mesh.specs.Meshes.{mesh_of}
use Rattle.dense_mesh.proofs.Tables.{table_same}
use Rattle.dense_remesh.specs.Lists.{HaveLeafLists}
use Rattle.dense_remesh.specs.StartBoxes.{amounts, cell_of, cell_of_block, opening_list, root_of, root_total, spread_over}
use Rattle.dense_remesh.proofs.LeafLists.{look_list}
use Rattle.dense_remesh.proofs.Numbers.{listed_at}
use Rattle.dense_remesh.proofs.Spreads.{filtered_amounts, spread_same}
use Rattle.dense_remesh.proofs.Taken.{lists_count, remapped_is}

-- a root cell lies on a leaf of the mesh of roots
root_leaf : (p : Problem) (c : Loc) → IsIn (cell_lattice (root_mesh (settings_of p))) c → c.level ≡ 0 → OnLeaf (root_mesh (settings_of p)) c
root_leaf p c inside root = record {
  inside = block_inside (root_mesh (settings_of p)) (root_is_mesh p) c inside;
  node = node_at c.level root;
  outer = λ h. search rules;
}
  where
    node_at : (n : ℕ) → n ≡ 0 → (nat_eq n 0 || false) ≡ true
    node_at n e = ap (λ (k : ℕ). nat_eq k 0 || false) e

-- the looks on it are the shares of what the boxes put into root cells
look_is : (p : Problem) (f : ℕ) → f < field_count (settings_of p) → (k : ℕ) (c : Loc) → c.level ≡ k → IsIn (cell_lattice (root_mesh (settings_of p))) c →
    look (root_mesh (settings_of p)) f c ≡ spread_over k p.shape.dims (opening_total (settings_of p) f) c
look_is p f some zero c at inside =
    let q = settings_of p in
    let m = root_mesh q in
    let leaf = root_leaf p c inside at in
    (look_law m f c (root_is_mesh p)).at_leaf leaf ∙ stored_at m (root_is_mesh p) (field_count q) f (opening_total q) c some leaf
look_is p f some (suc k) c at inside =
    let m = root_mesh (settings_of p) in
    let d : ℕ = p.shape.dims in
    let none : (nat_eq c.level 0 || false) ≡ false = ap (λ (b : Bool). b || false) (ne_eqb c.level 0 (λ e. omega arith)) in
    (look_law m f c (root_is_mesh p)).coarser none
    ∙ ap (λ q. share q (parts d) (child_number d c)) (look_is p f some k (parent d c) (omega arith) (parent_inside (cell_lattice m) c inside (omega arith)))

-- the boxes of a field put into a root cell what all put there of it
of_field : (test : Bool) (b : StartBox) (bs : List StartBox) (c : Loc) → root_total (cond test (b ∷ bs) bs) c ≡ cond (test && holds b c) b.amount 0 + root_total bs c
of_field true b bs c = refl
of_field false b bs c = omega arith

field_total : (f : ℕ) (c : Loc) (boxes : List StartBox) → sum_over boxes (λ (b : StartBox). cond (b.field == f && holds b c) b.amount 0) ≡ root_total (filter (λ (b : StartBox). b.field == f) boxes) c
field_total f c [] = refl
field_total f c (b ∷ bs) = let rest = field_total f c bs in let step = of_field (b.field == f) b (filter (λ (x : StartBox). x.field == f) bs) c in omega arith

-- the list of a block of the domain
pub opening_list_is : (p : Problem) (f : ℕ) → f < field_count (settings_of p) → (l : Loc) → IsIn p.shape l →
    opening_list p.shape.dims p.cells (filter (λ (b : StartBox). b.field == f) p.boxes) l ≡ look_list (root_mesh (settings_of p)) f l
opening_list_is p f some l inside =
    let q = settings_of p in
    let m : Mesh = root_mesh q in
    let d : ℕ = p.shape.dims in
    table_same (count_of p.cells) _ _ 0 (λ place small.
    let cell : List ℕ = cell_of_block p.cells l place in
    spread_same l.level d (root_total (filter (λ (b : StartBox). b.field == f) p.boxes)) (opening_total q f) cell (sym (field_total f (cell_of 0 (root_of d l.level cell)) p.boxes))
    ∙ sym (look_is p f some l.level (cell_at m l place) refl (cell_inside m l (index_of p.cells place) inside (index_below p.cells place small))))

-- a box has its amount once at least
box_at : (p : Problem) (i : ℕ) (d : StartBox) → i < length p.boxes → IsBox p.size (length p.moves) (slice_index_or p.boxes i d)
box_at p i d inside = All-get_or (IsBox p.size (length p.moves)) p.boxes i d inside p.entries_sound.boxes_sound

once : (a b c v : ℕ) → 1 ≤ a → 1 ≤ b → 1 ≤ c → v ≤ a * b * c * v
once a b c v x y z =
    let one : 1 * b ≤ a * b = mul-le-mul_right b x in
    let two : 1 * c ≤ (a * b) * c = mul-le-mul_right c (omega arith) in
    let three : 1 * v ≤ (a * b * c) * v = mul-le-mul_right v (omega arith) in
    omega arith

amount_within : (size : List ℕ) (fields : ℕ) (b : StartBox) → IsBox size fields b → b.amount ≤ box_total b
amount_within size fields b is = once (span b.lo b.hi 0) (span b.lo b.hi 1) (span b.lo b.hi 2) b.amount (omega (arith, is.part.along1.ordered)) (omega (arith, is.part.along2.ordered)) (omega (arith, is.part.along3.ordered))

amounts_within : (size : List ℕ) (fields : ℕ) (bs : List StartBox) → ((i : ℕ) (d : StartBox) → i < length bs → IsBox size fields (slice_index_or bs i d)) → amounts bs ≤ sum_by box_total bs
amounts_within size fields [] all = omega arith
amounts_within size fields (b ∷ bs) all =
    let first = amount_within size fields b (all 0 b (omega arith)) in
    let rest = amounts_within size fields bs (λ i d inside. all (suc i) d (omega (arith, inside))) in
    omega (arith, sum_by-cons box_total b bs)

pub few_amounts : (p : Problem) (test : StartBox → Bool) → amounts (filter test p.boxes) < 2 ^ 62
few_amounts p test = omega (arith, filtered_amounts test p.boxes, amounts_within p.size (length p.moves) p.boxes (box_at p), p.totals_fit)

-- lists by the boxes are the mesh at the start
pub opening_is : (p : Problem) (t : TreeOfBlocks) (new : List (List (List ℕ))) → t ≡ tree_with p.shape (opening_tree (settings_of p)) → length new ≡ field_count (settings_of p) →
    ((f : ℕ) → f < field_count (settings_of p) → slice_index_or new f [] ≡ map (opening_list p.shape.dims p.cells (filter (λ (b : StartBox). b.field == f) p.boxes)) (leaves t)) → mesh_of t p.cells new ≡ opening_mesh (settings_of p)
opening_is p t new is count each =
    let q = settings_of p in
    let m : Mesh = root_mesh q in
    let shape : t.shape ≡ p.shape = ap (λ (v : TreeOfBlocks). v.shape) is in
    let inner = inner_test p.shape (opening_tree q) p.grid_sound.shape_sound (opening_least p).one_of.tree in
    let tree : IsTree t.shape (is_listed t.inner) = subst (λ (v : TreeOfBlocks). IsTree v.shape (is_listed v.inner)) (sym is) (subst (λ (test : Loc → Bool). IsTree p.shape test) (sym inner) (opening_least p).one_of.tree) in
    let nowhere : Loc = record { level = 0; l1 = 0; l2 = 0; l3 = 0 } in
    let looks : (f : ℕ) → f < field_count q → slice_index_or new f [] ≡ map (look_list m f) (leaves t) = λ f some.
    each f some
    ∙ ext_get_or [] (map (opening_list p.shape.dims p.cells (filter (λ (b : StartBox). b.field == f) p.boxes)) (leaves t)) (map (look_list m f) (leaves t)) (length-map (leaves t) _ ∙ sym (length-map (leaves t) _))
    (λ k small.
    let below : k < length (leaves t) = omega (arith, length-map (leaves t) (opening_list p.shape.dims p.cells (filter (λ (b : StartBox). b.field == f) p.boxes))) in
    let l : Loc = slice_index_or (leaves t) k nowhere in
    let leaf = listed_leaf t.shape (is_listed t.inner) tree l (listed_at (leaves t) k l (slice_get-get_or (leaves t) k nowhere below)) in
    get_or-map (opening_list p.shape.dims p.cells (filter (λ (b : StartBox). b.field == f) p.boxes)) (leaves t) k nowhere [] below
    ∙ opening_list_is p f some l (subst (λ s. IsIn s l) shape leaf.inside)
    ∙ sym (get_or-map (look_list m f) (leaves t) k nowhere [] below)) in
    remapped_is m t new (field_count q) shape count looks
    ∙ ap (λ (v : TreeOfBlocks). remapped m (field_count q) v.inner (leaves v)) is
    ∙ ap (λ (test : Loc → Bool). remapped m (field_count q) (inner_of p.shape (opening_tree q)) (leaves_of p.shape test)) inner

pub opening_counts : (p : Problem) (t : TreeOfBlocks) (new : List (List (List ℕ))) → length new ≡ field_count (settings_of p) →
    ((f : ℕ) → f < field_count (settings_of p) → slice_index_or new f [] ≡ map (opening_list p.shape.dims p.cells (filter (λ (b : StartBox). b.field == f) p.boxes)) (leaves t)) → HaveLeafLists (field_count (settings_of p)) (leaves t) new
opening_counts p t new count each = lists_count (leaves t) new (field_count (settings_of p)) (λ f. opening_list p.shape.dims p.cells (filter (λ (b : StartBox). b.field == f) p.boxes)) count each
