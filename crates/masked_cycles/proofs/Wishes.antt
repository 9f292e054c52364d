-- What each block wishes is the wish of the leaf.
use Rattle.std.proofs.Common.{◌≡◌, ℕ, suc, ◌+◌, ◌<◌, List, [], ◌∷◌, map, length, refl, arith, ap, subst, sym, ◌∙◌, slice_index}
use Rattle.std.specs.List.{enumerate_from, range_with_len, slice_index_or}
use Rattle.std.proofs.lemmas.List.Elements.{All-get_or}
use Rattle.morton_order.specs.declared.space.Loc.{Loc}
use Rattle.problem_set.specs.Settings.{Settings}
use Rattle.problem_set.specs.SettingsOf.{settings_of}
use Rattle.deck_entries.specs.SoundEntries.{IsCriterion}
use Rattle.deck_entries.specs.declared.entries.Criterion.{Criterion}
use Rattle.mesh_rules.specs.declared.wish.Wish.{Wish}
use Rattle.block_tree.specs.declared.tags.Tag.{Tag}
use Rattle.mesh_rules.specs.Mesh.{Mesh, cell_at, stored}
use Rattle.mesh_rules.specs.Fields.{field_count}
use Rattle.mesh_rules.specs.Cycle.{reacted_to}
use Rattle.mesh_rules.specs.Tags.{at_root, counted, measured_by, strongest, tag_of, wish, wish_by}
use Rattle.run_laws.proofs.CycleMeshes.{on_reacted}
use Rattle.refine_tags.specs.Measures.{measured_in}
use Rattle.dense_mask.proofs.Leaves.{origin, stored_on_leaf}
use Rattle.dense_tags.proofs.Measured.{measured_is, own_address}
use Rattle.sparse_rounds.specs.Masked.{reacted_run}
use Rattle.cycle_kernels.specs.Blocks.{leaf_at}
use Rattle.cycle_kernels.specs.Cells.{criterion_wish}
use Rattle.masked_cycles.specs.Cycles.{Cycle, IsCycle, WishesAgree, cycle_mesh, kernels, start_of}
use Rattle.masked_cycles.specs.Wishes.{AllTagsFollow, counter_at, wish_at}
use Rattle.masked_cycles.proofs.Staging.{leaf_same}
use Rattle.masked_cycles.proofs.Reacting.{reactions_agree}
use Rattle.masked_cycles.proofs.Trees.{layout_on, same_reacted}

-- the wish of a criterion
criterion_is : (c : Cycle) (b : ℕ) (x : Criterion) → IsCycle c → b < length c.state.mesh.leaves → x.field < field_count (settings_of c.problem) →
    criterion_wish (cycle_mesh c) b ((reacted_run (kernels c) (start_of c)).mesh b) x ≡ wish_by x (leaf_at (cycle_mesh c) b).level (measured_by x.method (reacted_to (settings_of c.problem) c.react c.state).mesh x.field (leaf_at (cycle_mesh c) b))
criterion_is c b x is few some =
    let p : Settings = settings_of c.problem in
    let m : Mesh = (reacted_to p c.react c.state).mesh in
    let on = on_reacted p c.react c.state is.fit.mesh in
    let l : Loc = leaf_at (cycle_mesh c) b in
    let list : List ℕ = (reacted_run (kernels c) (start_of c)).mesh b x.field in
    let at : list ≡ _ = (reactions_agree c b x.field is (record { block = few; field = some })).holds.totals in
    let inside : b < length m.leaves = subst (λ (v : List Loc). b < length v) (sym on.leaves) few in
    ap (λ (g : List ℕ → ℕ). wish_by x l.level (measured_in x.method c.layout l.level g)) (λ j i. slice_index list (sym (own_address c.layout i) j))
    ∙ ap (wish_by x l.level) (measured_is m c.layout x.field l list x.method (layout_on c m is (same_reacted p c.react c.state))
    (λ place small. ap (λ (o : Loc). stored m x.field (cell_at m o place)) (sym (leaf_same c m b on.leaves)) ∙ stored_on_leaf m on.mesh x.field b place inside small ∙ ap (λ (v : List ℕ). slice_index v place) (sym at)))

maps_same : (xs : List Criterion) (f g : Criterion → Wish) → ((i : ℕ) → i < length xs → (d : Criterion) → f (slice_index_or xs i d) ≡ g (slice_index_or xs i d)) → map f xs ≡ map g xs
maps_same [] f g h = refl
maps_same (x ∷ xs) f g h = ap (λ v. v ∷ map f xs) (h 0 (omega arith) x) ∙ ap (λ (v : List Wish). g x ∷ v) (maps_same xs f g (λ i few d. h (suc i) (omega arith) d))

criterion_field : (c : Cycle) (i : ℕ) (d : Criterion) → i < length c.problem.criteria → (slice_index_or c.problem.criteria i d).field < field_count (settings_of c.problem)
criterion_field c i d few =
    let sound = All-get_or (IsCriterion c.problem.levels (length c.problem.moves)) c.problem.criteria i d few c.problem.entries_sound.criteria_sound in
    omega (arith, sound.field, c.problem.fields_sound.same_length)

pub wishes_agree : WishesAgree
wishes_agree c b is few =
    let m : Mesh = (reacted_to (settings_of c.problem) c.react c.state).mesh in
    let l : Loc = leaf_at (cycle_mesh c) b in
    ap (λ (v : List Wish). at_root l.level (strongest v))
    (maps_same c.problem.criteria (criterion_wish (cycle_mesh c) b ((reacted_run (kernels c) (start_of c)).mesh b)) (λ x. wish_by x l.level (measured_by x.method m x.field l))
    (λ i inside d. criterion_is c b (slice_index_or c.problem.criteria i d) is few (criterion_field c i d inside)))

-- the items of a list with their numbers, as a table
numbered : {X : Type 0} (a : ℕ) (xs : List Loc) (g : ℕ × Loc → X) (each : ℕ → X) → ((i : ℕ) → i < length xs → g (a + i, slice_index_or xs i origin) ≡ each (a + i)) → map g (enumerate_from a xs) ≡ map each (range_with_len a (length xs))
numbered a [] g each h = refl
numbered {X} a (x ∷ xs) g each h =
    let z : a ≡ a + 0 = omega arith in
    let first : g (a, x) ≡ each a = ap (λ n. g (n, x)) z ∙ h 0 (omega arith) ∙ ap each (sym z) in
    ap (λ v. v ∷ map g (enumerate_from (a + 1) xs)) first
    ∙ ap (λ (v : List X). each a ∷ v) (numbered (a + 1) xs g each (λ i few. let e : a + 1 + i ≡ a + suc i = omega arith in ap (λ n. g (n, slice_index_or xs i origin)) e ∙ h (suc i) (omega arith) ∙ ap each (sym e)))

pub tags_follow : AllTagsFollow
tags_follow c is = record {
  tags = ap (λ (v : List Loc). map tag_by (enumerate_from 0 v)) leaves
      ∙ numbered 0 c.state.mesh.leaves tag_by (λ b. tag_of limit (wish_at c b) (counter_at c b)) (λ i few. both i few);
  counters = ap (λ (v : List Loc). map count_by (enumerate_from 0 v)) leaves
      ∙ numbered 0 c.state.mesh.leaves count_by (counter_at c) (λ i few. one i few);
}
  where
    p : Settings
    p = settings_of c.problem

    m : Mesh
    m = (reacted_to p c.react c.state).mesh

    limit : ℕ
    limit = c.problem.derefine_count

    leaves : m.leaves ≡ c.state.mesh.leaves
    leaves = (on_reacted p c.react c.state is.fit.mesh).leaves

    tag_by : ℕ × Loc → Tag
    tag_by leaf = tag_of limit (wish p m leaf.1) (counted limit (wish p m leaf.1) (slice_index c.state.counters leaf.0))

    count_by : ℕ × Loc → ℕ
    count_by leaf = counted limit (wish p m leaf.1) (slice_index c.state.counters leaf.0)

    plain : (n : ℕ) → 0 + n ≡ n
    plain n = omega arith

    same : (i : ℕ) → i < length c.state.mesh.leaves → wish p m (slice_index_or c.state.mesh.leaves i origin) ≡ wish_at c (0 + i)
    same i few = sym (wishes_agree c i is few) ∙ ap (wish_at c) (sym (plain i))

    one : (i : ℕ) → i < length c.state.mesh.leaves → counted limit (wish p m (slice_index_or c.state.mesh.leaves i origin)) (slice_index c.state.counters (0 + i)) ≡ counter_at c (0 + i)
    one i few = ap (λ (v : Wish). counted limit v (slice_index c.state.counters (0 + i))) (same i few)

    both : (i : ℕ) → i < length c.state.mesh.leaves → tag_by (0 + i, slice_index_or c.state.mesh.leaves i origin) ≡ tag_of limit (wish_at c (0 + i)) (counter_at c (0 + i))
    both i few = ap (λ (v : Wish). tag_of limit v (counted limit v (slice_index c.state.counters (0 + i)))) (same i few)
