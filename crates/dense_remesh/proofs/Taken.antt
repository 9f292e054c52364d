-- The lists of a next tree are those of the looks.
use Rattle.std.proofs.Common.{◌≡◌, ℕ, ◌<◌, ◌≤◌, Bool, true, cond, eq-eqb, Option, Some, None, List, [], length, map, arith, ap, subst, sym, ◌∙◌, inl, inr}
use Rattle.std.specs.List.{position_or_len, slice_index_or}
use Rattle.std.proofs.lemmas.Bool.{cases_eq, ne_eqb}
use Rattle.std.proofs.lemmas.List.{ext_get_or, get_or-map, length-map}
use Rattle.std.proofs.lemmas.Option.{slice_get-get_or}
use Rattle.morton_order.specs.declared.space.Loc.{Loc}
use Rattle.morton_order.specs.declared.space.Shape.{Shape}
use Rattle.morton_order.specs.Space.{child, parent, parts, same_loc}
use Rattle.block_tree.specs.Tree.{IsLeaf, is_listed}
use Rattle.block_tree.specs.Blocks.{IsBlockTree, TreeOfBlocks, is_inner_of, leaves}
use Rattle.block_tree.specs.Next.{IsNear}
use Rattle.block_tree.specs.Nodes.{number_in}
use Rattle.block_tree.proofs.KeyOrder.{leaves_law}
use Rattle.block_tree.proofs.Numbers.{number_below, number_is}
use Rattle.problem_set.specs.Settings.{Settings}
use Rattle.mesh_rules.specs.Mesh.{Mesh, total_of}
use Rattle.mesh_rules.specs.Fields.{field_count}
use Rattle.mesh_rules.specs.Look.{look}
use Rattle.mesh_rules.specs.Remesh.{remapped}
use Rattle.block_layout.specs.declared.layout.Layout.{Layout}
use Rattle.block_layout.specs.Indices.{IsWithin, added, count_of}
use Rattle.block_geometry.specs.Blocks.{IsLayoutOf, cell_in}
use Rattle.block_geometry.proofs.Cells.{cell_inside}
use Rattle.dense_mesh.specs.Meshes.{IsMeshIn, field_lists, mesh_of, totals_in}
use Rattle.dense_mesh.proofs.Lists.{field_lists_are_meshes, lists_are_totals}
use Rattle.dense_mesh.proofs.Tables.{table_by}
use Rattle.dense_remesh.specs.Lists.{HaveLeafLists}
use Rattle.dense_remesh.specs.declared.origins.Origin.{Origin}
use Rattle.dense_remesh.specs.declared.origins.Origin.TheVariants.{Leaf, Parent, Children}
use Rattle.dense_remesh.specs.Origins.{AreOrigins, IsOrigin, IsParentOf, parent_number}
use Rattle.dense_remesh.specs.Parts.{AreTaken, CanTake, IsChildList, IsLeafList, IsTaken, list_of, part_low}
use Rattle.dense_remesh.proofs.Bounds.{look_within, one_of_sum}
use Rattle.dense_remesh.proofs.Families.{shares_are_looks, sum_is_look, sums_are_looks}
use Rattle.dense_remesh.proofs.Halves.{part_within}
use Rattle.dense_remesh.proofs.LeafLists.{HasLooks, leaf_looks, look_list, looks_are, numbered_leaf}
use Rattle.dense_remesh.proofs.Near.{children_leaves, was_inner}
use Rattle.dense_remesh.proofs.Numbers.{leaf_at}

-- lists on a tree, and a near one
pub record Remeshes (p : Settings) (t next : TreeOfBlocks) (layout : Layout) (lists : List (List (List ℕ))) : Type 0 where
  pub mesh : IsMeshIn p t layout lists
  pub near : IsNear t.shape (is_inner_of t) (is_inner_of next)

pub layout_of : (p : Settings) (t : TreeOfBlocks) (layout : Layout) (lists : List (List (List ℕ))) → IsMeshIn p t layout lists → IsLayoutOf (mesh_of t p.cells lists) layout
layout_of p t layout lists is = record { dims = is.dims ∙ sym (ap (λ (s : Shape). s.dims) is.mesh.shape); cells = is.cells }

-- the number of a leaf
pub leaf_number_in : (p : Settings) (t : TreeOfBlocks) (layout : Layout) (lists : List (List (List ℕ))) → IsMeshIn p t layout lists → (l : Loc) → IsLeaf t.shape (is_inner_of t) l →
    number_in (leaves t) l ≡ Some (position_or_len (same_loc l) (leaves t))
leaf_number_in p t layout lists is l leaf =
    let listed : is_listed (leaves t) l ≡ true = ((leaves_law t.shape (is_listed t.inner) is.mesh.mesh.shape is.mesh.mesh.tree).leaves l).1 leaf in
    number_is (leaves t) l ∙ ap (λ (b : Bool). cond b (Some (position_or_len (same_loc l) (leaves t))) None) listed

some_or_none : (o : Option ℕ) (x : ℕ) → o ≡ Some x → o ≡ None → ⊥
some_or_none o x h k = cc

-- what the number of a parent says
pub record IsParentNumber (t : TreeOfBlocks) (l : Loc) (leaf : ℕ) : Type 0 where
  pub deep : 1 ≤ l.level
  pub number : number_in (leaves t) (parent t.shape.dims l) ≡ Some leaf

pub parent_says : (t : TreeOfBlocks) (l : Loc) (leaf : ℕ) → parent_number t l ≡ Some leaf → IsParentNumber t l leaf
parent_says t l leaf h = elim (cases_eq l.level 0) [
  | inl root ↦ absurd (some_or_none (parent_number t l) leaf h (ap (λ (b : Bool). cond b None (number_in (leaves t) (parent t.shape.dims l))) (eq-eqb l.level 0 root)))
  | inr deep ↦ record { deep = omega arith; number = sym (ap (λ (b : Bool). cond b None (number_in (leaves t) (parent t.shape.dims l))) (ne_eqb l.level 0 deep)) ∙ h }
]

no_parent : (t : TreeOfBlocks) (l : Loc) → parent_number t l ≡ None → 1 ≤ l.level → number_in (leaves t) (parent t.shape.dims l) ≡ None
no_parent t l h deep = sym (ap (λ (b : Bool). cond b None (number_in (leaves t) (parent t.shape.dims l))) (ne_eqb l.level 0 (λ e. omega arith))) ∙ h

-- the list of a leaf has all its cells
pub leaf_list : (p : Settings) (t : TreeOfBlocks) (layout : Layout) (lists : List (List (List ℕ))) → IsMeshIn p t layout lists → (f leaf : ℕ) (l : Loc) → f < field_count p → number_in (leaves t) l ≡ Some leaf →
    IsLeafList layout (slice_index_or lists f []) leaf
leaf_list p t layout lists is f leaf l some h =
    let below = number_below (leaves t) l leaf h in
    let count = is.leaf_lists f some in
    record {
      there = omega arith;
      size = sym (ap (λ (v : List ℕ). length v) (lists_are_totals t p.cells lists leaf f below (omega (arith, is.fields)))) ∙ is.mesh.cell_lists leaf f below some ∙ ap count_of (sym is.cells);
    }

-- all children of a new leaf that was none were leaves
pub all_children : (p : Settings) (t next : TreeOfBlocks) (layout : Layout) (lists : List (List (List ℕ))) → Remeshes p t next layout lists → (l : Loc) (numbers : List (Option ℕ)) → IsLeaf t.shape (is_inner_of next) l → IsParentOf t l numbers →
    (j : ℕ) → IsLeaf t.shape (is_inner_of t) (child t.shape.dims l j)
all_children p t next layout lists rem l numbers leaf of =
    let is = rem.mesh in
    let inner = was_inner t.shape (is_inner_of t) (is_inner_of next) rem.near l leaf
    (λ old. some_or_none (number_in (leaves t) l) _ (leaf_number_in p t layout lists is l old) of.new)
    (λ deep old. some_or_none (number_in (leaves t) (parent t.shape.dims l)) _ (leaf_number_in p t layout lists is (parent t.shape.dims l) old) (no_parent t l of.above deep)) in
    children_leaves t.shape (is_inner_of t) (is_inner_of next) is.mesh.mesh.tree rem.near l leaf inner

-- each list of a child fits
pub child_lists : (p : Settings) (t next : TreeOfBlocks) (layout : Layout) (lists : List (List (List ℕ))) → Remeshes p t next layout lists → (f : ℕ) → f < field_count p → (l : Loc) (numbers : List (Option ℕ)) → IsLeaf t.shape (is_inner_of next) l → IsParentOf t l numbers →
    (j : ℕ) → j < parts layout.dims → IsChildList layout (slice_index_or lists f []) (slice_index_or numbers j None)
child_lists p t next layout lists rem f some l numbers leaf of j small =
    let is = rem.mesh in
    let m : Mesh = mesh_of t p.cells lists in
    let c : Loc = child t.shape.dims l j in
    let old = all_children p t next layout lists rem l numbers leaf of j in
    let lay = layout_of p t layout lists is in
    let number = leaf_number_in p t layout lists is c old in
    let x : ℕ = position_or_len (same_loc c) (leaves t) in
    let few : j < parts t.shape.dims = subst (λ v. j < parts v) lay.dims small in
    let at : slice_index_or numbers j None ≡ Some x = of.below j few ∙ number in
    subst (IsChildList layout (slice_index_or lists f [])) (sym at) (
      leaf_list p t layout lists is f x c some number,
      λ r w.
          let i : List ℕ = added (part_low layout j) r in
          let inside = cell_inside m l i leaf.inside (subst (λ (n : List ℕ). IsWithin n i) is.cells (part_within layout j r w)) in
          let seen = sum_is_look m layout f l j (totals_in lists f x) r is.mesh.mesh lay old (leaf_looks p t layout lists is f x c some number) w in
          let most = look_within m f is.mesh.mesh (cell_in m l i) inside in
          let whole = one_of_sum (field_count p) (total_of m) f some in
          omega (arith, is.bound),
    )

-- old leaves have the lists that a new one needs
pub can_take : (p : Settings) (t next : TreeOfBlocks) (layout : Layout) (lists : List (List (List ℕ))) → Remeshes p t next layout lists → (f : ℕ) → f < field_count p → (l : Loc) → IsLeaf t.shape (is_inner_of next) l →
    (o : Origin) → IsOrigin t l o → CanTake layout (slice_index_or lists f []) o
can_take p t next layout lists rem f some l leaf (Leaf x) is = leaf_list p t layout lists rem.mesh f x l some is
can_take p t next layout lists rem f some l leaf (Parent x) is = leaf_list p t layout lists rem.mesh f x (parent t.shape.dims l) some (parent_says t l x is.above).number
can_take p t next layout lists rem f some l leaf (Children numbers) is = child_lists p t next layout lists rem f some l numbers leaf is

-- what is taken is the list of the looks
pub taken_is : (p : Settings) (t next : TreeOfBlocks) (layout : Layout) (lists : List (List (List ℕ))) → Remeshes p t next layout lists → (f : ℕ) → f < field_count p → (l : Loc) → IsLeaf t.shape (is_inner_of next) l →
    (o : Origin) (list : List ℕ) → IsOrigin t l o → IsTaken layout (slice_index_or lists f []) l o list → list ≡ look_list (mesh_of t p.cells lists) f l
taken_is p t next layout lists rem f some l leaf (Leaf x) list is taken =
    let m : Mesh = mesh_of t p.cells lists in
    let size = leaf_list p t layout lists rem.mesh f x l some is in
    taken ∙ looks_are m f l (totals_in lists f x) (size.size ∙ ap count_of rem.mesh.cells) (leaf_looks p t layout lists rem.mesh f x l some is)
taken_is p t next layout lists rem f some l leaf (Parent x) list is taken =
    let m : Mesh = mesh_of t p.cells lists in
    let says = parent_says t l x is.above in
    let up : Loc = parent t.shape.dims l in
    looks_are m f l list (taken.0 ∙ ap count_of rem.mesh.cells)
    (shares_are_looks m layout f l (totals_in lists f x) list rem.mesh.mesh.mesh (layout_of p t layout lists rem.mesh) says.deep (numbered_leaf p t layout lists rem.mesh up x says.number) (leaf_looks p t layout lists rem.mesh f x up some says.number) taken.1)
taken_is p t next layout lists rem f some l leaf (Children numbers) list is taken =
    let m : Mesh = mesh_of t p.cells lists in
    let old = all_children p t next layout lists rem l numbers leaf is in
    looks_are m f l list (taken.0 ∙ ap count_of rem.mesh.cells)
    (sums_are_looks m layout f l (slice_index_or lists f []) numbers list rem.mesh.mesh.mesh (layout_of p t layout lists rem.mesh)
    (λ j few.
    let c : Loc = child t.shape.dims l j in
    let number = leaf_number_in p t layout lists rem.mesh c (old j) in
    let at : slice_index_or numbers j None ≡ Some (position_or_len (same_loc c) (leaves t)) = is.below j few ∙ number in
    (old j, subst (λ (o : Option ℕ). HasLooks m f c (list_of (slice_index_or lists f []) o)) (sym at) (leaf_looks p t layout lists rem.mesh f (position_or_len (same_loc c) (leaves t)) c some number)))
    taken.1)

-- the lists of a field on the next tree
pub field_taken : (p : Settings) (t next : TreeOfBlocks) (layout : Layout) (lists : List (List (List ℕ))) → Remeshes p t next layout lists → IsBlockTree next → next.shape ≡ t.shape → (f : ℕ) → f < field_count p →
    (origins : List Origin) (new : List (List ℕ)) → AreOrigins t (leaves next) origins → AreTaken layout (slice_index_or lists f []) (leaves next) origins new → new ≡ map (look_list (mesh_of t p.cells lists) f) (leaves next)
field_taken p t next layout lists rem kept shape f some origins new of taken =
    let nowhere : Loc = record { level = 0; l1 = 0; l2 = 0; l3 = 0 } in
    ext_get_or [] new (map (look_list (mesh_of t p.cells lists) f) (leaves next)) (taken.count ∙ sym (length-map (leaves next) (look_list (mesh_of t p.cells lists) f)))
    (λ k small.
    let below : k < length (leaves next) = omega (arith, taken.count) in
    let l : Loc = slice_index_or (leaves next) k nowhere in
    let leaf : IsLeaf t.shape (is_inner_of next) l = subst (λ (s : Shape). IsLeaf s (is_inner_of next) l) shape (leaf_at next kept k l (slice_get-get_or (leaves next) k nowhere below)) in
    taken_is p t next layout lists rem f some l leaf (slice_index_or origins k (Leaf 0)) (slice_index_or new k []) (of.each k nowhere (Leaf 0) below) (taken.each k nowhere (Leaf 0) below)
    ∙ sym (get_or-map (look_list (mesh_of t p.cells lists) f) (leaves next) k nowhere [] below))

-- the old lists of a field are there for each leaf of the next tree
pub field_takes : (p : Settings) (t next : TreeOfBlocks) (layout : Layout) (lists : List (List (List ℕ))) → Remeshes p t next layout lists → IsBlockTree next → next.shape ≡ t.shape → (f : ℕ) → f < field_count p →
    (origins : List Origin) → AreOrigins t (leaves next) origins → (k : ℕ) (o : Origin) → k < length origins → CanTake layout (slice_index_or lists f []) (slice_index_or origins k o)
field_takes p t next layout lists rem kept shape f some origins of k o small =
    let nowhere : Loc = record { level = 0; l1 = 0; l2 = 0; l3 = 0 } in
    let below : k < length (leaves next) = omega (arith, of.count) in
    let l : Loc = slice_index_or (leaves next) k nowhere in
    let leaf : IsLeaf t.shape (is_inner_of next) l = subst (λ (s : Shape). IsLeaf s (is_inner_of next) l) shape (leaf_at next kept k l (slice_get-get_or (leaves next) k nowhere below)) in
    can_take p t next layout lists rem f some l leaf (slice_index_or origins k o) (of.each k nowhere o below)

-- lists of looks are the mesh on the next tree
pub remapped_is : (m : Mesh) (next : TreeOfBlocks) (new : List (List (List ℕ))) (fields : ℕ) → next.shape ≡ m.shape → length new ≡ fields →
    ((f : ℕ) → f < fields → slice_index_or new f [] ≡ map (look_list m f) (leaves next)) → mesh_of next m.cells new ≡ remapped m fields next.inner (leaves next)
remapped_is m next new fields shape count each =
    let base : Mesh = mesh_of next m.cells [] in
    let same : new ≡ field_lists base fields (look m) = table_by new fields (λ f. map (look_list m f) (leaves next)) [] count each in
    ap (mesh_of next m.cells) same
    ∙ field_lists_are_meshes next m.cells [] fields (look m)
    ∙ ap (λ (s : Shape). record (remapped m fields next.inner (leaves next)) { shape = s }) shape

pub lists_count : (places : List Loc) (new : List (List (List ℕ))) (fields : ℕ) (each : ℕ → Loc → List ℕ) → length new ≡ fields → ((f : ℕ) → f < fields → slice_index_or new f [] ≡ map (each f) places) → HaveLeafLists fields places new
lists_count places new fields each count is = record { fields = count; leaves = λ f small. ap (λ (v : List (List ℕ)). length v) (is f small) ∙ length-map places (each f) }
