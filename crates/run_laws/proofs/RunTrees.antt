-- The meshes of a run stand on balanced trees.
use Rattle.std.proofs.Common.{◌≡◌, ℕ, zero, suc, ◌+◌, ◌-◌, ◌<◌, ◌≤◌, Bool, true, false, cond, ◌&&◌, ◌||◌, not, nat_lt, nat_le, List, [], ◌∷◌, length, map, IsTrue, refl, sym, ap, ◌∙◌, subst, arith, rules, ⊎_elim}
use Rattle.std.specs.Prelude.{slice_index}
use Rattle.std.specs.Map.{lookup}
use Rattle.std.specs.List.{enumerate_from, flat_map, list_any, slice_index_or, zip}
use Rattle.std.proofs.lemmas.Bool.{cases_lt}
use Rattle.std.proofs.lemmas.Bool.Decides.{nat_tests}
use Rattle.std.proofs.lemmas.List.{length-map}
use Rattle.std.proofs.lemmas.List.Elements.{All-from_get_or, All-get_or}
use Rattle.std.proofs.lemmas.List.FromFn.{get_or-map-range_with_len, length-map-range_with_len}
use Rattle.morton_order.specs.declared.space.Loc.{Loc}
use Rattle.morton_order.specs.declared.space.Shape.{Shape}
use Rattle.morton_order.specs.Space.{is_inside, same_loc}
use Rattle.package_fields.specs.Kernel.{Reacted}
use Rattle.problem_set.specs.Settings.{Settings}
use Rattle.problem_set.specs.declared.problem.Problem.{Problem}
use Rattle.deck_entries.specs.declared.entries.Criterion.{Criterion}
use Rattle.deck_entries.specs.declared.entries.StaticAt.{StaticAt}
use Rattle.problem_set.specs.SettingsOf.{settings_of}
use Rattle.deck_entries.specs.SoundEntries.{IsCriterion, IsStatic}
use Rattle.block_tree.specs.declared.boxes.StaticBox.{StaticBox}
use Rattle.block_tree.specs.declared.tags.Tag.{Tag}
use Rattle.block_tree.specs.Tree.{IsBalanced, IsTree}
use Rattle.block_tree.specs.Leaves.{inner_of, leaves_of, roots}
use Rattle.block_tree.specs.Least.{forced, least, meets, wanted_by}
use Rattle.block_tree.specs.Next.{FitTags, IsNear, IsNext, is_refine, merges, tag_at, wanted_next}
use Rattle.block_tree.proofs.LeafList.{listed_leaf}
use Rattle.block_tree.proofs.Next.{next_is_least, next_is_near, opening_is_least}
use Rattle.mesh_rules.specs.Sums.{table}
use Rattle.mesh_rules.specs.Mesh.{IsMesh, Mesh, block_of, block_size, cell_at, filled, is_inner, stored}
use Rattle.mesh_rules.specs.Look.{look}
use Rattle.mesh_rules.specs.Fields.{field_count}
use Rattle.mesh_rules.specs.Tags.{counted, measured_by, tag_of, wish}
use Rattle.mesh_rules.specs.Remesh.{finest_inner, next_tree, remap}
use Rattle.mesh_rules.specs.Mask.{kept_by_check, stays}
use Rattle.mesh_rules.specs.Cycle.{State, reacted_to, settled, tags_of}
use Rattle.mesh_rules.specs.Opening.{opening_mesh, opening_state, opening_tree, root_mesh, static_of}
use Rattle.mesh_rules.specs.Run.{Outcome, Reached, cycled, leaf_limit, next_outcome, opened, reached, remeshed, remeshes_at, run, run_from, running, start_of, too_many_at, too_many_at_start}
use Rattle.mesh_rules.specs.Fit.{IsMeshOf}
use Rattle.mesh_laws.proofs.RemapMeshes.{filled_is_mesh, remap_is_mesh}
use Rattle.run_laws.specs.TreeLaws.{NextIsLeastTree, OpeningIsLeastTree, RunsStandOnTrees}
use Rattle.run_laws.proofs.CycleMeshes.{on_reacted}
use Rattle.run_laws.proofs.TagFacts.{left_of, right_of, root_refines, strongest_refines, tag_looked_up, tag_refines, tagged_listed}

-- items of mapped lists and of tables
pub mapped : {X Y : Type 0} (g : X → Y) (xs : List X) (i : ℕ) (d : X) (e : Y) → i < length xs → slice_index_or (map g xs) i e ≡ g (slice_index_or xs i d)
mapped g [] i d e h = absurd (omega (arith, h))
mapped g (x ∷ xs) zero d e h = refl
mapped g (x ∷ xs) (suc i) d e h = mapped g xs i d e (omega (arith, h))

pub table_at : {X : Type 0} (n : ℕ) (f : ℕ → X) (k : ℕ) (d : X) → k < n → slice_index_or (table n f) k d ≡ f k
table_at n f k d inside = get_or-map-range_with_len f 0 n k k d inside (omega arith)

origin : Loc
origin = record { level = 0; l1 = 0; l2 = 0; l3 = 0 }

-- a mesh that is filled has a total for each cell of each field
pub mesh_of_filled : (q : Settings) (m : Mesh) (each : ℕ → Loc → ℕ) → IsMesh m → m.shape ≡ q.shape → m.cells ≡ q.cells → length m.leaves ≤ leaf_limit → ((l : Loc) → IsTrue (is_inner m l) → l.level + 2 ≤ q.levels) → IsMeshOf q (filled m (field_count q) each)
mesh_of_filled q m each mesh shape cells few coarse =
    let fields : Loc → List (List ℕ) = λ l. table (field_count q) (λ f. table (block_size m) (λ place. each f (cell_at m l place))) in
    record {
      mesh = filled_is_mesh m (field_count q) each mesh;
      shape = shape;
      cells = cells;
      few = few;
      coarse = coarse;
      leaf_lists = length-map m.leaves fields;
      field_lists = λ leaf inside. ap (λ (xs : List (List ℕ)). length xs) (mapped fields m.leaves leaf origin [] inside) ∙ length-map-range_with_len _ 0 (field_count q);
      cell_lists = λ leaf f inside within.
          ap (λ (xs : List (List ℕ)). length (slice_index_or xs f [])) (mapped fields m.leaves leaf origin [] inside)
          ∙ ap (λ (xs : List ℕ). length xs) (table_at (field_count q) (λ g. table (block_size m) (λ place. each g (cell_at m (slice_index_or m.leaves leaf origin) place))) f [] within)
          ∙ length-map-range_with_len _ 0 (block_size m);
    }

-- what a test says
is_below : (a b : ℕ) → nat_le a b ≡ true → a ≤ b
is_below a b e = grind (arith, nat_tests)

is_less : (a b : ℕ) → nat_lt a b ≡ true → a < b
is_less a b e = grind (arith, nat_tests)

-- no inner node of a least tree is finer than what is wanted may be
least_coarse : (levels : ℕ) (s : Shape) (wanted : Loc → Bool) → ((l : Loc) → wanted l ≡ true → l.level + 2 ≤ levels) → (l : Loc) → least (levels - 2) s wanted l ≡ true → l.level + 2 ≤ levels
unfolding forced
least_coarse levels s wanted few l e =
    let rest = right_of (is_inside s l) (nat_le l.level (levels - 2) && forced (levels - 2 - l.level) s wanted l) e in
    let level = is_below l.level (levels - 2) (left_of (nat_le l.level (levels - 2)) (forced (levels - 2 - l.level) s wanted l) rest) in
    let held = right_of (nat_le l.level (levels - 2)) (forced (levels - 2 - l.level) s wanted l) rest in
    ⊎_elim (λ (more : 1 < levels). omega (arith, level))
    (λ (one : levels ≤ 1).
    let none : levels - 2 - l.level ≡ 0 = omega arith in
    few l (ap (λ (k : ℕ). forced k s wanted l) (sym none) ∙ held))
    (cases_lt 1 levels)

-- what static boxes want is coarse
static_coarse : (levels : ℕ) (size : List ℕ) (level : ℕ) (meet : StaticBox → Bool) (ss : List StaticAt) → ((i : ℕ) (d : StaticAt) → i < length ss → IsStatic size levels (slice_index_or ss i d)) → list_any (λ (b : StaticBox). nat_lt level b.level && meet b) (map static_of ss) ≡ true → level + 2 ≤ levels
static_coarse levels size level meet [] all e = cc
static_coarse levels size level meet (x ∷ ss) all e = by (nat_lt level x.level) (meet (static_of x)) (is_less level x.level) (static_coarse levels size level meet ss (λ i d inside. all (suc i) d (omega (arith, inside)))) e
  where
    sound : IsStatic size levels x
    sound = all 0 x (omega arith)

    by : (a b : Bool) → (a ≡ true → level < x.level) → (list_any (λ (t : StaticBox). nat_lt level t.level && meet t) (map static_of ss) ≡ true → level + 2 ≤ levels) → ((a && b) || list_any (λ (t : StaticBox). nat_lt level t.level && meet t) (map static_of ss)) ≡ true → level + 2 ≤ levels
    by true true below more h = omega (arith, below refl, (all 0 x (omega arith)).most)
    by true false below more h = more h
    by false b below more h = more h

statics_at : (p : Problem) (i : ℕ) (d : StaticAt) → i < length p.statics → IsStatic p.size p.levels (slice_index_or p.statics i d)
statics_at p i d inside = All-get_or (IsStatic p.size p.levels) p.statics i d inside p.entries_sound.statics_sound

criteria_at : (p : Problem) (i : ℕ) (d : Criterion) → i < length p.criteria → IsCriterion p.levels (length p.moves) (slice_index_or p.criteria i d)
criteria_at p i d inside = All-get_or (IsCriterion p.levels (length p.moves)) p.criteria i d inside p.entries_sound.criteria_sound

opening_coarse : (p : Problem) (l : Loc) → opening_tree (settings_of p) l ≡ true → l.level + 2 ≤ p.levels
opening_coarse p = least_coarse p.levels p.shape (wanted_by p.shape p.cells (map static_of p.statics))
    (λ l e. static_coarse p.levels p.size l.level (λ b. meets p.shape p.cells b l) p.statics (statics_at p) (left_of _ (is_inside p.shape l) e))

finest_small : (p : Problem) → finest_inner (settings_of p) < 10
finest_small p = omega (arith, p.refining_sound.most_levels)

pub opening_least : OpeningIsLeastTree
opening_least p =
    let none : StaticBox = record { level = 0; lo = []; hi = [] } in
    let nowhere : StaticAt = record { level = 0; lo = []; hi = [] } in
    opening_is_least (finest_inner (settings_of p)) p.shape p.cells (map static_of p.statics) p.grid_sound.shape_sound (finest_small p)
    (All-from_get_or (λ (b : StaticBox). b.level ≤ finest_inner (settings_of p) + 1) (map static_of p.statics) none
    (λ i below.
    let inside : i < length p.statics = omega (arith, below, length-map p.statics static_of) in
    let at = ap (λ (b : StaticBox). b.level) (mapped static_of p.statics i nowhere none inside) in
    omega (arith, at, (statics_at p i nowhere inside).most)))

-- what the tags of a cycle ask for is coarse
refined_coarse : (p : Problem) (react : List ℕ → Reacted) (s : State) → IsMeshOf (settings_of p) s.mesh → (l : Loc) → IsTrue (is_refine (tag_at s.mesh.leaves (tags_of (settings_of p) react s) l)) → l.level + 2 ≤ p.levels
refined_coarse p react s of l h =
    let q = settings_of p in
    let m = (reacted_to q react s).mesh in
    let g : ℕ → Loc → Tag = λ i x. tag_of p.derefine_count (wish q m x) (counted p.derefine_count (wish q m x) (slice_index s.counters i)) in
    let same = (on_reacted q react s of).leaves in
    let on_same : IsTrue (is_refine (lookup (same_loc l) (zip m.leaves (map (λ (x : ℕ × Loc). g x.0 x.1) (enumerate_from 0 m.leaves))))) =
    subst (λ (xs : List Loc). IsTrue (is_refine (lookup (same_loc l) (zip xs (map (λ (x : ℕ × Loc). g x.0 x.1) (enumerate_from 0 m.leaves)))))) (sym same) h in
    let found = tag_looked_up l g m.leaves 0 on_same in
    let wishes = root_refines l.level _ (tag_refines p.derefine_count _ (wish q m l) found.1) in
    strongest_refines p.levels (length p.moves) l.level (λ c. measured_by c.method m c.field l) p.criteria (criteria_at p) wishes

pub tags_fit : (p : Problem) (react : List ℕ → Reacted) (s : State) → IsMeshOf (settings_of p) s.mesh → FitTags (finest_inner (settings_of p)) s.mesh.shape (is_inner s.mesh) (tag_at s.mesh.leaves (tags_of (settings_of p) react s))
tags_fit p react s of = record {
  on_leaf = λ l tagged. listed_leaf s.mesh.shape (is_inner s.mesh) of.mesh.tree l (ap (λ (xs : List Loc). list_any (same_loc l) xs) (sym of.mesh.leaves) ∙ tagged_listed l s.mesh.leaves (tags_of (settings_of p) react s) tagged);
  inner = λ l h. let c = of.coarse l h in omega arith;
  refined = λ l h. let c = refined_coarse p react s of l h in omega arith;
}

pub next_least : NextIsLeastTree
next_least p react s of =
    let q = settings_of p in
    let old = is_inner s.mesh in
    let tag = tag_at s.mesh.leaves (tags_of q react s) in
    let fit = tags_fit p react s of in
    let next = next_is_least (finest_inner q) s.mesh.shape old tag of.mesh.shape (finest_small p) of.mesh.tree fit in
    let near = next_is_near (finest_inner q) s.mesh.shape old tag (next_tree q s.mesh (tags_of q react s)) of.mesh.shape of.mesh.tree of.mesh.balanced fit next in
    record {
      least = subst (λ (sh : Shape). IsNext sh old tag (next_tree q s.mesh (tags_of q react s))) of.shape next;
      near = subst (λ (sh : Shape). IsNear sh old (next_tree q s.mesh (tags_of q react s))) of.shape near;
    }

-- the next tree is coarse
next_coarse : (p : Problem) (react : List ℕ → Reacted) (s : State) → IsMeshOf (settings_of p) s.mesh → (l : Loc) → next_tree (settings_of p) s.mesh (tags_of (settings_of p) react s) l ≡ true → l.level + 2 ≤ p.levels
next_coarse p react s of =
    let q = settings_of p in
    let tag = tag_at s.mesh.leaves (tags_of q react s) in
    least_coarse p.levels s.mesh.shape (wanted_next s.mesh.shape.dims (is_inner s.mesh) tag) (λ l e. by l (is_inner s.mesh l) (merges s.mesh.shape.dims tag l) (is_refine (tag l)) (of.coarse l) (refined_coarse p react s of l) e)
  where
    by : (l : Loc) (a b c : Bool) → (IsTrue a → l.level + 2 ≤ p.levels) → (IsTrue c → l.level + 2 ≤ p.levels) → ((a && not b) || c) ≡ true → l.level + 2 ≤ p.levels
    by l true b c first second e = first (search rules)
    by l false b true first second e = second (search rules)
    by l false b false first second e = cc

-- the mesh of root blocks
one_each : (xs : List Loc) → xs ≡ flat_map (λ l. l ∷ []) xs
one_each [] = refl
one_each (x ∷ xs) = ap (λ (ys : List Loc). x ∷ ys) (one_each xs)

root_leaves : (s : Shape) → roots s ≡ leaves_of s (λ l. false)
unfolding leaves_of
root_leaves s = one_each (roots s)

some_cells : (p : Problem) (axis : ℕ) → axis < 3 → 1 ≤ slice_index p.cells axis
some_cells p zero h = p.grid_sound.cells_sound.along1.least
some_cells p (suc zero) h = p.grid_sound.cells_sound.along2.least
some_cells p (suc (suc zero)) h = p.grid_sound.cells_sound.along3.least
some_cells p (suc (suc (suc a))) h = absurd (omega arith)

pub root_is_mesh : (p : Problem) → IsMesh (root_mesh (settings_of p))
root_is_mesh p = record {
  shape = p.grid_sound.shape_sound;
  some_cells = some_cells p;
  tree = record { inside = λ l h. absurd (search rules); above_finest = λ l h. absurd (search rules); closed = λ l h k. absurd (search rules) };
  balanced = λ l m h inside near. absurd (search rules);
  leaves = root_leaves p.shape;
}

-- a mesh on another tree that is coarse and has few leaves
remap_of : (q : Settings) (m : Mesh) (inner : Loc → Bool) → IsMesh m → m.shape ≡ q.shape → m.cells ≡ q.cells → IsTree m.shape inner → IsBalanced m.shape inner → ((l : Loc) → inner l ≡ true → l.level + 2 ≤ q.levels) → length (leaves_of m.shape inner) ≤ leaf_limit → IsMeshOf q (remap m (field_count q) inner)
remap_of q m inner mesh shape cells tree balanced coarse few =
    let is = remap_is_mesh m (field_count q) inner mesh tree balanced in
    let base : Mesh = record m { inner = inner_of m.shape inner; leaves = leaves_of m.shape inner; totals = [] } in
    mesh_of_filled q base (look m) (record { shape = is.mesh.shape; some_cells = is.mesh.some_cells; tree = is.mesh.tree; balanced = is.mesh.balanced; leaves = is.mesh.leaves }) shape cells few
    (λ l h. coarse l (sym (is.nodes l) ∙ h))

opening_is : (p : Problem) → length (leaves_of p.shape (opening_tree (settings_of p))) ≤ leaf_limit → IsMeshOf (settings_of p) (opening_mesh (settings_of p))
opening_is p few =
    let least = opening_least p in
    remap_of (settings_of p) (root_mesh (settings_of p)) (opening_tree (settings_of p)) (root_is_mesh p) refl refl least.one_of.tree least.one_of.balanced (opening_coarse p) few

pub settled_is : (p : Problem) (react : List ℕ → Reacted) (s : State) → IsMeshOf (settings_of p) s.mesh → IsMeshOf (settings_of p) (settled (settings_of p) react s).mesh
settled_is p react s of =
    let q = settings_of p in
    let h = reacted_to q react s in
    let on = on_reacted q react s of in
    let mask = kept_by_check q h.mesh h.mask in
    mesh_of_filled q h.mesh (λ f c. cond (stays q h.mesh mask f (block_of h.mesh c)) (stored h.mesh f c) 0) on.mesh on.shape (on.cells ∙ of.cells)
    (omega (arith, ap (λ (xs : List Loc). length xs) on.leaves, of.few)) (λ l inner. let c = on.coarse l inner in omega arith)

-- the tree after a cycle, on the mesh that it left
pub next_tree_is : (p : Problem) (react : List ℕ → Reacted) (s : State) → IsMeshOf (settings_of p) s.mesh → (sh : Shape) → sh ≡ p.shape → IsTree sh (next_tree (settings_of p) s.mesh (tags_of (settings_of p) react s)) × IsBalanced sh (next_tree (settings_of p) s.mesh (tags_of (settings_of p) react s))
next_tree_is p react s of sh is =
    let next = next_tree (settings_of p) s.mesh (tags_of (settings_of p) react s) in
    let least = (next_least p react s of).least in
    subst (λ (x : Shape). IsTree x next × IsBalanced x next) (sym is) (least.one_of.tree, least.one_of.balanced)

pub remeshed_is : (p : Problem) (react : List ℕ → Reacted) (s : State) → IsMeshOf (settings_of p) s.mesh → length (leaves_of s.mesh.shape (next_tree (settings_of p) s.mesh (tags_of (settings_of p) react s))) ≤ leaf_limit
    → IsMeshOf (settings_of p) (remeshed (settings_of p) (settled (settings_of p) react s) (next_tree (settings_of p) s.mesh (tags_of (settings_of p) react s))).mesh
remeshed_is p react s of few =
    let q = settings_of p in
    let next = next_tree q s.mesh (tags_of q react s) in
    let m = (settled q react s).mesh in
    let is = settled_is p react s of in
    let tree = next_tree_is p react s of m.shape is.shape in
    let same : s.mesh.shape ≡ m.shape = of.shape ∙ sym is.shape in
    remap_of q m next is.mesh is.shape is.cells tree.0 tree.1 (next_coarse p react s of) (subst (λ (sh : Shape). length (leaves_of sh next) ≤ leaf_limit) same few)

-- a cycle that goes on has led to the state on the next tree, or on the old one
pub data LeadsTo (q : Settings) (react : List ℕ → Reacted) (s : State) (r : Reached) : Type 0 where
  stays_there : r ≡ reached q react s (settled q react s) → LeadsTo q react s r
  moves_on : length (leaves_of s.mesh.shape (next_tree q s.mesh (tags_of q react s))) ≤ leaf_limit → r ≡ reached q react s (remeshed q (settled q react s) (next_tree q s.mesh (tags_of q react s))) → LeadsTo q react s r

goes_on : (x r : Reached) → running x ≡ running r → r ≡ x
goes_on x r e = cc

pub leads_to : (q : Settings) (react : List ℕ → Reacted) (k : ℕ) (s : State) (r : Reached) → cycled q react k s ≡ running r → LeadsTo q react s r
leads_to q react k s r e = by (remeshes_at q k) (nat_le (length (leaves_of s.mesh.shape (next_tree q s.mesh (tags_of q react s)))) leaf_limit) (is_below (length (leaves_of s.mesh.shape (next_tree q s.mesh (tags_of q react s)))) leaf_limit) e
  where
    by : (a b : Bool) → (b ≡ true → length (leaves_of s.mesh.shape (next_tree q s.mesh (tags_of q react s))) ≤ leaf_limit)
        → cond a (cond b (running (reached q react s (remeshed q (settled q react s) (next_tree q s.mesh (tags_of q react s))))) (too_many_at k (length (leaves_of s.mesh.shape (next_tree q s.mesh (tags_of q react s)))))) (running (reached q react s (settled q react s))) ≡ running r → LeadsTo q react s r
    by true true few h = moves_on (few refl) (goes_on _ r h)
    by true false few h = cc
    by false b few h = stays_there (goes_on _ r h)

step_stands : (p : Problem) (react : List ℕ → Reacted) (s : State) (r : Reached) → IsMeshOf (settings_of p) s.mesh → LeadsTo (settings_of p) react s r → IsMeshOf (settings_of p) r.state.mesh
step_stands p react s r of (stays_there e) = subst (λ (x : Reached). IsMeshOf (settings_of p) x.state.mesh) (sym e) (settled_is p react s of)
step_stands p react s r of (moves_on few e) = subst (λ (x : Reached). IsMeshOf (settings_of p) x.state.mesh) (sym e) (remeshed_is p react s of few)

-- what comes before a cycle that goes on
pub record ComesFrom (q : Settings) (react : List ℕ → Reacted) (c : ℕ) (r : Reached) : Type 0 where
  pub before : Reached
  pub runs : run q react c ≡ running before
  pub leads : LeadsTo q react before.state r

pub comes_from : (q : Settings) (react : List ℕ → Reacted) (c : ℕ) (r : Reached) → run q react (suc c) ≡ running r → ComesFrom q react c r
unfolding run run_from
comes_from q react c r e = by (run_from q react 0 (opened q) c) refl e
  where
    by : (o : Outcome) → run_from q react 0 (opened q) c ≡ o → next_outcome q react (0 + suc c) o ≡ running r → ComesFrom q react c r
    by (running before) is h = record { before = before; runs = is; leads = leads_to q react (0 + suc c) before.state r h }
    by too_many_at_start is h = cc
    by (too_many_at at leaves) is h = cc

-- a run that goes on began with the opening
pub starts_from : (p : Problem) (react : List ℕ → Reacted) (r : Reached) → run (settings_of p) react 0 ≡ running r → r ≡ start_of (settings_of p) (opening_state (settings_of p))
unfolding run run_from
starts_from p react r e = by (nat_le (length (leaves_of p.shape (opening_tree (settings_of p)))) leaf_limit) e
  where
    by : (b : Bool) → cond b (running (start_of (settings_of p) (opening_state (settings_of p)))) too_many_at_start ≡ running r → r ≡ start_of (settings_of p) (opening_state (settings_of p))
    by true h = goes_on _ r h
    by false h = cc

pub run_stands : RunsStandOnTrees
unfolding run run_from
run_stands p react zero r e = by (nat_le (length (leaves_of p.shape (opening_tree (settings_of p)))) leaf_limit) (is_below (length (leaves_of p.shape (opening_tree (settings_of p)))) leaf_limit) e
  where
    by : (b : Bool) → (b ≡ true → length (leaves_of p.shape (opening_tree (settings_of p))) ≤ leaf_limit) → cond b (running (start_of (settings_of p) (opening_state (settings_of p)))) too_many_at_start ≡ running r → IsMeshOf (settings_of p) r.state.mesh
    by true few h = subst (λ (x : Reached). IsMeshOf (settings_of p) x.state.mesh) (sym (goes_on _ r h)) (opening_is p (few refl))
    by false few h = cc
run_stands p react (suc c) r e =
    let from = comes_from (settings_of p) react c r e in
    step_stands p react from.before.state r (run_stands p react c from.before from.runs) from.leads
