-- The state with which a run opens fits, and one that fits still does after a cycle on the same tree.
use Rattle.std.proofs.Common.{◌≡◌, ℕ, zero, suc, ◌+◌, ◌<◌, ◌≤◌, Bool, true, false, cond, ◌||◌, not, nat_lt, List, [], ◌∷◌, length, map, replicate, All, refl, sym, ap, ◌∙◌, subst, arith, ⊎_elim}
use Rattle.std.specs.Prelude.{slice_index}
use Rattle.std.specs.List.{enumerate_from, slice_index_or}
use Rattle.std.specs.List.Sorted.{IsStrictlyIncreasing}
use Rattle.std.proofs.lemmas.Bool.{cases_lt, false≢true}
use Rattle.std.proofs.lemmas.Bool.Decides.{nat_tests}
use Rattle.std.proofs.lemmas.List.{get_or-replicate, length-map, length-replicate}
use Rattle.std.proofs.lemmas.List.Elements.{All-from_get_or}
use Rattle.std.proofs.lemmas.List.FromFn.{length-map-range_with_len}
use Rattle.morton_order.specs.declared.space.Loc.{Loc}
use Rattle.morton_order.specs.Key.{key}
use Rattle.package_fields.specs.Kernel.{Reacted}
use Rattle.problem_set.specs.Settings.{Settings}
use Rattle.problem_set.specs.declared.problem.Problem.{Problem}
use Rattle.problem_set.specs.SettingsOf.{settings_of}
use Rattle.block_tree.proofs.KeyOrder.{leaves_law}
use Rattle.mesh_rules.specs.declared.wish.Wish.{Wish}
use Rattle.mesh_rules.specs.declared.wish.Wish.TheVariants.{Refine, Same, Derefine}
use Rattle.mesh_rules.specs.Sums.{table}
use Rattle.mesh_rules.specs.Mesh.{IsMesh, Mesh, block_of, block_size, cell_at, is_inner, leaf_number, place_of, stored, totals_on}
use Rattle.mesh_rules.specs.Fields.{field_count, is_sparse}
use Rattle.mesh_rules.specs.Tags.{counted, counters_after, wish}
use Rattle.mesh_rules.specs.Mask.{Mask, Slot, absent, called, cut, has_above, kept_by_check, slot_at, stays}
use Rattle.mesh_rules.specs.Cycle.{State, reacted_to, settled}
use Rattle.mesh_rules.specs.Opening.{opening_mesh, opening_state}
use Rattle.mesh_rules.specs.Fit.{IsMeshOf}
use Rattle.mesh_laws.proofs.Fillings.{number_of, place_of_cell}
use Rattle.morton_order.proofs.Any.{any_range-has}
use Rattle.mesh_laws.proofs.LeafSums.{block_of_cell}
use Rattle.run_laws.specs.MaskLaws.{FitsSlot, MaskFits}
use Rattle.run_laws.proofs.CycleMeshes.{OnTreeOf, on_reacted}
use Rattle.run_laws.proofs.RunTrees.{mapped, table_at}
use Rattle.run_laws.proofs.Slots.{length_enumerated, masks_stay, opening_fits, origin, slot_masked}

-- in a list that rises step by step each later item is greater
rising_all : (xs : List ℕ) → IsStrictlyIncreasing xs → (i j : ℕ) → i < j → j < length xs → slice_index xs i < slice_index xs j
rising_all xs up i zero h k = absurd (omega arith)
rising_all xs up i (suc j) h k =
    let e : j + 1 ≡ suc j = omega arith in
    let step : slice_index xs j < slice_index xs (suc j) = subst (λ (n : ℕ). slice_index xs j < slice_index xs n) e (up j (omega arith)) in
    ⊎_elim
    (λ (below : i < j). let before = rising_all xs up i j below (omega arith) in omega arith)
    (λ (last : j ≤ i). let same : j ≡ i = omega arith in subst (λ (n : ℕ). slice_index xs n < slice_index xs (suc j)) same step)
    (cases_lt i j)

same_item : {X : Type 0} (xs : List X) (i : ℕ) (d e : X) → i < length xs → slice_index_or xs i d ≡ slice_index_or xs i e
same_item [] i d e h = absurd (omega (arith, h))
same_item (x ∷ xs) zero d e h = refl
same_item (x ∷ xs) (suc i) d e h = same_item xs i d e (omega (arith, h))

-- the number of a leaf is its place in the list
number_is : (m : Mesh) → IsMesh m → (leaf : ℕ) → leaf < length m.leaves → leaf_number m (slice_index_or m.leaves leaf origin) ≡ leaf
number_is m mesh leaf inside =
    let xs = m.leaves in
    let l = slice_index_or xs leaf origin in
    let at : slice_index_or xs leaf l ≡ l = same_item xs leaf l origin inside in
    let n = leaf_number m l in
    let numbered = number_of l xs leaf inside at in
    let many = length-map xs key in
    let up : IsStrictlyIncreasing (map key xs) = subst (λ (ys : List Loc). IsStrictlyIncreasing (map key ys)) (sym mesh.leaves) (leaves_law m.shape (is_inner m) mesh.shape mesh.tree).rising in
    let here = mapped key xs leaf l 0 inside ∙ ap key at in
    let there = mapped key xs n l 0 numbered.small ∙ ap key numbered.is in
    ⊎_elim
    (λ (below : n < leaf). absurd (omega (arith, rising_all (map key xs) up n leaf below (omega (arith, many, inside)), here, there)))
    (λ (above : leaf ≤ n).
    ⊎_elim
    (λ (more : leaf < n). absurd (omega (arith, rising_all (map key xs) up leaf n more (omega (arith, many, numbered.small)), here, there)))
    (λ (most : n ≤ leaf). omega arith) (cases_lt leaf n))
    (cases_lt n leaf)

-- a field that is not kept on a leaf of a cut mesh has nothing there
not_stays : (q : Settings) (m : Mesh) (mask : Mask) (f leaf : ℕ) (l : Loc) → leaf_number m l ≡ leaf → FitsSlot q f (slot_at mask leaf f) → (slot_at mask leaf f).kept ≡ false → stays q m mask f l ≡ false
not_stays q m mask f leaf l number fit gone =
    let kept = ap (λ (n : ℕ). (slot_at mask n f).kept) number ∙ gone in
    by (is_sparse q f) refl kept
  where
    by : (b : Bool) → is_sparse q f ≡ b → (slot_at mask (leaf_number m l) f).kept ≡ false → stays q m mask f l ≡ false
    by true e k = ap (λ (t : Bool). not t || (slot_at mask (leaf_number m l) f).kept) e ∙ k
    by false e k = absurd (false≢true (sym gone ∙ fit.always e))

cut_zero : (q : Settings) (first m : Mesh) (mask : Mask) → OnTreeOf q first m → MaskFits q m.leaves mask → (leaf f : ℕ) → leaf < length m.leaves → f < field_count q → (slot_at mask leaf f).kept ≡ false → All (λ total. total ≡ 0) (totals_on (cut q mask m) leaf f)
cut_zero q first m mask on fit leaf f inside within gone =
    let l = slice_index_or m.leaves leaf origin in
    let each : ℕ → ℕ → ℕ = λ g place. cond (stays q m mask g (block_of m (cell_at m l place))) (stored m g (cell_at m l place)) 0 in
    let lists : Loc → List (List ℕ) = λ x. table (field_count q) (λ g. table (block_size m) (λ place. cond (stays q m mask g (block_of m (cell_at m x place))) (stored m g (cell_at m x place)) 0)) in
    let is : totals_on (cut q mask m) leaf f ≡ table (block_size m) (each f) =
    ap (λ (xs : List (List ℕ)). slice_index_or xs f []) (mapped lists m.leaves leaf origin [] inside) ∙ table_at (field_count q) (λ g. table (block_size m) (each g)) f [] within in
    let out = not_stays q m mask f leaf l (number_is m on.mesh leaf inside) (fit.slots leaf f inside within) gone in
    subst (All (λ total. total ≡ 0)) (sym is)
    (All-from_get_or (λ total. total ≡ 0) (table (block_size m) (each f)) 0
    (λ place small.
    let room : place < block_size m = omega (arith, small, length-map-range_with_len (each f) 0 (block_size m)) in
    table_at (block_size m) (each f) place 0 room
    ∙ ap (λ (x : Loc). cond (stays q m mask f x) (stored m f (cell_at m l place)) 0) (block_of_cell m on.mesh.some_cells l place room)
    ∙ ap (λ (b : Bool). cond b (stored m f (cell_at m l place)) 0) out))

-- what the parts of a state keep
pub record StateFits (q : Settings) (s : State) : Type 0 where
  pub mask : MaskFits q s.mesh.leaves s.mask
  pub zero_outside : (leaf f : ℕ) → leaf < length s.mesh.leaves → f < field_count q → (slot_at s.mask leaf f).kept ≡ false → All (λ total. total ≡ 0) (totals_on s.mesh leaf f)
  pub counter_list : length s.counters ≡ length s.mesh.leaves
  pub counters : All (λ count. count ≤ q.derefine_count) s.counters

-- what has no cell above zero is all zero
is_nothing : (x : ℕ) → nat_lt 0 x ≡ false → x ≡ 0
is_nothing x e = grind (arith, nat_tests)

none_above : (m : Mesh) (f : ℕ) (l : Loc) → has_above 0 m f l ≡ false → (place : ℕ) → place < block_size m → stored m f (cell_at m l place) ≡ 0
none_above m f l none place small = by (nat_lt 0 (stored m f (cell_at m l place))) refl
  where
    by : (b : Bool) → nat_lt 0 (stored m f (cell_at m l place)) ≡ b → stored m f (cell_at m l place) ≡ 0
    by true e = absurd (false≢true (sym none ∙ any_range-has (λ k. nat_lt 0 (stored m f (cell_at m l k))) 0 (block_size m) place (omega arith) (omega arith) e))
    by false e = is_nothing _ e

or_none : (a b : Bool) → (a || b) ≡ false → b ≡ false
or_none true b e = cc
or_none false b e = e

opening_zero : (p : Problem) → IsMeshOf (settings_of p) (opening_mesh (settings_of p)) → (leaf f : ℕ) → leaf < length (opening_mesh (settings_of p)).leaves → f < field_count (settings_of p) → (slot_at (opening_state (settings_of p)).mask leaf f).kept ≡ false → All (λ total. total ≡ 0) (totals_on (opening_mesh (settings_of p)) leaf f)
opening_zero p of leaf f inside within gone =
    let q = settings_of p in
    let m = opening_mesh q in
    let l = slice_index_or m.leaves leaf origin in
    let slot = slot_masked m.leaves (field_count q) (λ _ x g. called absent (not (is_sparse q g) || has_above 0 m g x)) leaf f inside within in
    let none = or_none (not (is_sparse q f)) (has_above 0 m f l) (sym (ap (λ (t : Slot). t.kept) slot) ∙ gone) in
    let number = number_is m of.mesh leaf inside in
    All-from_get_or (λ total. total ≡ 0) (totals_on m leaf f) 0
    (λ place small.
    let room : place < block_size m = omega (arith, small, of.cell_lists leaf f inside within) in
    let block = block_of_cell m of.mesh.some_cells l place room in
    let place_is = place_of_cell m of.mesh.some_cells l place room in
    let here : stored m f (cell_at m l place) ≡ slice_index (totals_on m leaf f) place =
    ap (λ (x : Loc). slice_index (totals_on m (leaf_number m x) f) (place_of m (cell_at m l place))) block
    ∙ ap (λ (n : ℕ). slice_index (totals_on m n f) (place_of m (cell_at m l place))) number
    ∙ ap (λ (n : ℕ). slice_index (totals_on m leaf f) n) place_is in
    sym here ∙ none_above m f l none place room)

-- counters stay within their limit
counted_within : (limit count : ℕ) (w : Wish) → counted limit w count ≤ limit
counted_within limit count Derefine = omega arith
counted_within limit count Same = omega arith
counted_within limit count Refine = omega arith

counters_within : (q : Settings) (m : Mesh) (counters : List ℕ) → All (λ count. count ≤ q.derefine_count) (counters_after q m counters)
counters_within q m counters =
    let g : ℕ × Loc → ℕ = λ (leaf : ℕ × Loc). counted q.derefine_count (wish q m leaf.1) (slice_index counters leaf.0) in
    let xs = enumerate_from 0 m.leaves in
    All-from_get_or (λ count. count ≤ q.derefine_count) (map g xs) 0
    (λ i small.
    let inside : i < length xs = omega (arith, small, length-map xs g) in
    let at = mapped g xs i (0, origin) 0 inside in
    subst (λ (n : ℕ). n ≤ q.derefine_count) (sym at) (counted_within q.derefine_count _ (wish q m (slice_index_or xs i (0, origin)).1)))

no_counters : (n limit : ℕ) → All (λ count. count ≤ limit) (replicate n 0)
no_counters n limit =
    let none : ℕ = 0 in
    All-from_get_or (λ count. count ≤ limit) (replicate n none) 0
    (λ i small. let inside : i < n = omega (arith, small, length-replicate n none) in subst (λ (k : ℕ). k ≤ limit) (sym (get_or-replicate n i none none inside)) (omega arith))

none_length : (n : ℕ) → length {A = ℕ} (replicate n 0) ≡ n
none_length n = let none : ℕ = 0 in length-replicate n none

-- a cycle on the same tree
pub settled_fits : (p : Problem) (react : List ℕ → Reacted) (s : State) → IsMeshOf (settings_of p) s.mesh → StateFits (settings_of p) s → StateFits (settings_of p) (settled (settings_of p) react s)
settled_fits p react s of fit =
    let q = settings_of p in
    let h = reacted_to q react s in
    let on = on_reacted q react s of in
    let mask = kept_by_check q h.mesh h.mask in
    let stays_fit = masks_stay p react s of fit.mask in
    let here : MaskFits q h.mesh.leaves mask = subst (λ (ls : List Loc). MaskFits q ls mask) (sym on.leaves) stays_fit in
    record {
      mask = here;
      zero_outside = cut_zero q s.mesh h.mesh mask on here;
      counter_list = length-map (enumerate_from 0 h.mesh.leaves) (λ (leaf : ℕ × Loc). counted q.derefine_count (wish q h.mesh leaf.1) (slice_index s.counters leaf.0)) ∙ length_enumerated 0 h.mesh.leaves;
      counters = counters_within q h.mesh s.counters;
    }

-- the opening
pub opened_fits : (p : Problem) → IsMeshOf (settings_of p) (opening_mesh (settings_of p)) → StateFits (settings_of p) (opening_state (settings_of p))
opened_fits p of =
    let n = length (opening_mesh (settings_of p)).leaves in
    record {
      mask = opening_fits p;
      zero_outside = opening_zero p of;
      counter_list = none_length n;
      counters = no_counters n p.derefine_count;
    }
