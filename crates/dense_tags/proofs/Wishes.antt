-- What the lists of a leaf wish is what the rules wish for it on the mesh.
use Rattle.std.proofs.Common.{◌≡◌, ℕ, zero, suc, ◌+◌, ◌<◌, ◌≤◌, true, Some, List, [], ◌∷◌, length, map, slice_index, refl, arith, ap, sym, ◌∙◌}
use Rattle.std.specs.List.{enumerate_from, slice_get, slice_index_or}
use Rattle.std.proofs.lemmas.List.{ext_get_or, get_or-map, length-map}
use Rattle.std.proofs.lemmas.List.Elements.{All-get_or}
use Rattle.std.proofs.lemmas.List.FromFn.{get_or-enumerate_from, length-enumerate_from}
use Rattle.morton_order.specs.declared.space.Loc.{Loc}
use Rattle.morton_order.specs.declared.space.Shape.{Shape}
use Rattle.morton_order.specs.Space.{same_loc}
use Rattle.morton_order.proofs.Any.{or_left, or_right}
use Rattle.morton_order.proofs.Touching.{same_loc-self}
use Rattle.block_tree.specs.declared.tags.Tag.{Tag}
use Rattle.block_tree.specs.Tree.{is_listed}
use Rattle.block_tree.specs.Blocks.{TreeOfBlocks, leaves}
use Rattle.block_tree.proofs.LeafList.{listed_leaf}
use Rattle.deck_entries.specs.declared.entries.Criterion.{Criterion}
use Rattle.problem_set.specs.declared.problem.Problem.{Problem}
use Rattle.problem_set.specs.SettingsOf.{settings_of}
use Rattle.deck_entries.specs.SoundEntries.{IsCriterion}
use Rattle.mesh_rules.specs.declared.wish.Wish.{Wish}
use Rattle.mesh_rules.specs.Mesh.{Mesh}
use Rattle.mesh_rules.specs.Fields.{field_count}
use Rattle.mesh_rules.specs.Tags.{at_root, counted, counters_after, measured_by, strongest, tag_of, tags_after, wish, wish_by}
use Rattle.block_layout.specs.declared.layout.Layout.{Layout}
use Rattle.block_layout.specs.Indices.{count_of}
use Rattle.block_geometry.specs.Blocks.{IsLayoutOf}
use Rattle.dense_mesh.specs.Meshes.{IsMeshIn, mesh_of, totals_in}
use Rattle.dense_mesh.proofs.Lists.{lists_are_totals}
use Rattle.dense_mask.proofs.Leaves.{has_row, origin, stored_on_leaf}
use Rattle.dense_tags.specs.LeafWishes.{HaveLeaf, leaf_wish, list_wish}
use Rattle.dense_tags.proofs.Measured.{measured_is}

-- the leaf of a number is one of the finest level or coarser
listed_at : (xs : List Loc) (k : ℕ) (l : Loc) → slice_get xs k ≡ Some l → is_listed xs l ≡ true
listed_at [] k l h = cc
listed_at (x ∷ xs) zero l h = let same : x ≡ l = cc in or_left (same_loc l x) (is_listed xs l) (ap (same_loc l) same ∙ same_loc-self l)
listed_at (x ∷ xs) (suc k) l h = or_right (same_loc l x) (is_listed xs l) (listed_at xs k l h)

pub level_most : (p : Problem) (t : TreeOfBlocks) (layout : Layout) (lists : List (List (List ℕ))) → IsMeshIn (settings_of p) t layout lists → (leaf : ℕ) (l : Loc) → slice_get (leaves t) leaf ≡ Some l → l.level ≤ 10
level_most p t layout lists is leaf l at = (listed_leaf t.shape (is_listed t.inner) is.mesh.mesh.tree l (listed_at (leaves t) leaf l at)).inside.level

-- each field has a list of the leaf
pub have_leaf : (p : Problem) (t : TreeOfBlocks) (layout : Layout) (lists : List (List (List ℕ))) → IsMeshIn (settings_of p) t layout lists → (leaf : ℕ) → leaf < length (leaves t) → HaveLeaf layout lists leaf
have_leaf p t layout lists is leaf small f some =
    let few : f < field_count (settings_of p) = omega (arith, is.fields) in
    let count = is.leaf_lists f few in
    record { there = omega arith; size = (has_row (settings_of p) t layout lists is f leaf few small).long ∙ ap count_of (sym is.cells) }

-- a criterion measures a field
pub criterion_at : (p : Problem) (k : ℕ) (d : Criterion) → k < length p.criteria → (slice_index_or p.criteria k d).field < field_count (settings_of p)
criterion_at p k d small = let sound = All-get_or (IsCriterion p.levels (length p.moves)) p.criteria k d small p.entries_sound.criteria_sound in omega (arith, sound.field, p.fields_sound.same_length)

-- what a criterion wishes
one_wish : (p : Problem) (t : TreeOfBlocks) (layout : Layout) (lists : List (List (List ℕ))) → IsMeshIn (settings_of p) t layout lists → (leaf : ℕ) → leaf < length (leaves t) → (c : Criterion) → c.field < field_count (settings_of p) →
    let l = slice_index_or (leaves t) leaf origin in
    list_wish layout l.level lists leaf c ≡ wish_by c l.level (measured_by c.method (mesh_of t p.cells lists) c.field l)
one_wish p t layout lists is leaf small c some =
    let m : Mesh = mesh_of t p.cells lists in
    let l : Loc = slice_index_or (leaves t) leaf origin in
    let of : IsLayoutOf m layout = record { dims = is.dims ∙ sym (ap (λ (s : Shape). s.dims) is.mesh.shape); cells = is.cells } in
    ap (wish_by c l.level) (measured_is m layout c.field l (totals_in lists c.field leaf) c.method of
    (λ place inside. stored_on_leaf m is.mesh.mesh c.field leaf place small inside ∙ ap (λ (v : List ℕ). slice_index v place) (lists_are_totals t p.cells lists leaf c.field small (omega (arith, is.fields)))))

-- what the leaf wishes
pub wish_is : (p : Problem) (t : TreeOfBlocks) (layout : Layout) (lists : List (List (List ℕ))) → IsMeshIn (settings_of p) t layout lists → (leaf : ℕ) → leaf < length (leaves t) →
    let l = slice_index_or (leaves t) leaf origin in
    leaf_wish p.criteria layout l.level lists leaf ≡ wish (settings_of p) (mesh_of t p.cells lists) l
wish_is p t layout lists is leaf small =
    let m : Mesh = mesh_of t p.cells lists in
    let l : Loc = slice_index_or (leaves t) leaf origin in
    let g : Criterion → Wish = list_wish layout l.level lists leaf in
    let h : Criterion → Wish = λ c. wish_by c l.level (measured_by c.method m c.field l) in
    ap (λ (ws : List Wish). at_root l.level (strongest ws)) (mapped p.criteria g h (λ k d few. one_wish p t layout lists is leaf small (slice_index_or p.criteria k d) (criterion_at p k d few)))
  where
    mapped : (cs : List Criterion) (g h : Criterion → Wish) → ((k : ℕ) (d : Criterion) → k < length cs → g (slice_index_or cs k d) ≡ h (slice_index_or cs k d)) → map g cs ≡ map h cs
    mapped [] g h same = refl
    mapped (c ∷ cs) g h same = ap (λ w. w ∷ map g cs) (same 0 c (omega arith)) ∙ ap (λ (ws : List Wish). h c ∷ ws) (mapped cs g h (λ k d few. same (suc k) d (omega arith)))

-- the tag and the count of a leaf by its number
abbrev pub wish_at : Problem → TreeOfBlocks → Layout → List (List (List ℕ)) → ℕ → Wish
wish_at p t layout lists leaf = leaf_wish p.criteria layout (slice_index_or (leaves t) leaf origin).level lists leaf

abbrev pub count_at : Problem → TreeOfBlocks → Layout → List (List (List ℕ)) → List ℕ → ℕ → ℕ
count_at p t layout lists counters leaf = counted p.derefine_count (wish_at p t layout lists leaf) (slice_index counters leaf)

abbrev pub tag_at : Problem → TreeOfBlocks → Layout → List (List (List ℕ)) → List ℕ → ℕ → Tag
tag_at p t layout lists counters leaf = tag_of p.derefine_count (wish_at p t layout lists leaf) (count_at p t layout lists counters leaf)

-- lists of what each leaf gives, by its number and its wish
by_leaves : {X : Type 0} (p : Problem) (t : TreeOfBlocks) (layout : Layout) (lists : List (List (List ℕ))) → IsMeshIn (settings_of p) t layout lists → (g : ℕ → Wish → X) (new : List X) (d : X) → length new ≡ length (leaves t) →
    ((k : ℕ) → k < length (leaves t) → slice_index_or new k d ≡ g k (wish_at p t layout lists k)) →
    new ≡ map (λ (leaf : ℕ × Loc). g leaf.0 (wish (settings_of p) (mesh_of t p.cells lists) leaf.1)) (enumerate_from 0 (leaves t))
by_leaves p t layout lists is g new d count each =
    let m : Mesh = mesh_of t p.cells lists in
    let f = λ (leaf : ℕ × Loc). g leaf.0 (wish (settings_of p) m leaf.1) in
    let numbered = enumerate_from 0 (leaves t) in
    ext_get_or d new (map f numbered) (count ∙ sym (length-map numbered f ∙ length-enumerate_from 0 (leaves t)))
    (λ k few.
    let small : k < length (leaves t) = omega arith in
    each k small ∙ ap (g k) (wish_is p t layout lists is k small)
    ∙ sym (get_or-map f numbered k (0, origin) d (omega (arith, length-enumerate_from 0 (leaves t))) ∙ ap f (get_or-enumerate_from 0 (leaves t) k (0, origin) small ∙ first k (slice_index_or (leaves t) k origin))))
  where
    first : (k : ℕ) (l : Loc) → (let x : ℕ × Loc = (0 + k, l) in x) ≡ (let x : ℕ × Loc = (k, l) in x)
    first k l = let e : 0 + k ≡ k = omega arith in ap (λ n. let x : ℕ × Loc = (n, l) in x) e

pub tags_are : (p : Problem) (t : TreeOfBlocks) (layout : Layout) (lists : List (List (List ℕ))) → IsMeshIn (settings_of p) t layout lists → (counters : List ℕ) (new : List Tag) (d : Tag) → length new ≡ length (leaves t) →
    ((k : ℕ) → k < length (leaves t) → slice_index_or new k d ≡ tag_at p t layout lists counters k) → new ≡ tags_after (settings_of p) (mesh_of t p.cells lists) counters
tags_are p t layout lists is counters new d count each = by_leaves p t layout lists is (λ k w. tag_of p.derefine_count w (counted p.derefine_count w (slice_index counters k))) new d count each

pub counters_are : (p : Problem) (t : TreeOfBlocks) (layout : Layout) (lists : List (List (List ℕ))) → IsMeshIn (settings_of p) t layout lists → (counters new : List ℕ) → length new ≡ length (leaves t) →
    ((k : ℕ) → k < length (leaves t) → slice_index_or new k 0 ≡ count_at p t layout lists counters k) → new ≡ counters_after (settings_of p) (mesh_of t p.cells lists) counters
counters_are p t layout lists is counters new count each = by_leaves p t layout lists is (λ k w. counted p.derefine_count w (slice_index counters k)) new 0 count each
