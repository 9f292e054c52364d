-- At zero thresholds a cycle is that which knows of no mask.
use Rattle.std.proofs.Common.{◌≡◌, ◌⊎◌, inl, inr, ℕ, zero, suc, ◌%◌, ◌<◌, Bool, true, false, cond, ◌&&◌, ◌||◌, not, nat_lt, List, [], ◌∷◌, length, refl, arith, ap, subst, sym, ◌∙◌, ⊎_elim}
use Rattle.std.specs.Prelude.{slice_index}
use Rattle.std.specs.List.{slice_index_or}
use Rattle.std.proofs.lemmas.Bool.{false≢true}
use Rattle.std.proofs.lemmas.Bool.Decides.{nat_tests}
use Rattle.std.proofs.lemmas.List.Elements.{All-get_or}
use Rattle.morton_order.specs.declared.space.Loc.{Loc}
use Rattle.morton_order.specs.declared.space.Shape.{Shape}
use Rattle.morton_order.proofs.Any.{any_range-has}
use Rattle.problem_set.specs.Settings.{Settings}
use Rattle.problem_set.specs.declared.problem.Problem.{Problem}
use Rattle.problem_set.specs.SettingsOf.{settings_of}
use Rattle.mesh_rules.specs.Sums.{sum_to}
use Rattle.mesh_rules.specs.Mesh.{Mesh, block_of, block_size, cell_at, leaf_number, place_of, stored, totals_on}
use Rattle.mesh_rules.specs.Fields.{field_count, is_sparse}
use Rattle.mesh_rules.specs.Stage.{stage, staged}
use Rattle.mesh_rules.specs.Reaction.{react_mesh, reacted_cell}
use Rattle.mesh_rules.specs.Mask.{Mask, Slot, called, checked_slot, exchange_calls, has_above, kept_by_check, kept_by_exchange, kept_by_reaction, masked, slot_at, stays}
use Rattle.mesh_rules.specs.Cycle.{Held, State, checked, leaf_drop, leaf_drop_at_check, leaf_drop_by_reaction, leaf_drop_in_stage, reacted_to, staged_to}
use Rattle.mesh_rules.specs.Unmasked.{dense_kept, dense_kept_reacted, dense_reacted, dense_staged}
use Rattle.mesh_rules.specs.Fit.{IsMaskOf, IsMeshOf}
use Rattle.mesh_laws.proofs.Fillings.{number_of, place_of_cell, stored_filled}
use Rattle.mesh_laws.proofs.Grids.{sum_zero}
use Rattle.mesh_laws.proofs.LeafSums.{block_of_cell}
use Rattle.run_laws.specs.ZeroThresholds.{ZeroThresholdsAreUnmasked}
use Rattle.run_laws.proofs.CycleMeshes.{OnTreeOf, on_reacted, on_reacting, on_staged}
use Rattle.run_laws.proofs.Slots.{origin, slot_masked}
use Rattle.run_laws.proofs.ZeroCuts.{IsNothingOut, ListedAt, all_cells, cell_inside, cut_same, leaf_at, none_dropped, on_leaf_at, over_nothing}
use Rattle.run_laws.proofs.ZeroFluxes.{stage_nothing}
use Rattle.run_laws.proofs.ZeroRegions.{IsSite}

-- the item of a list that is asked for with any default
same_item : {X : Type 0} (xs : List X) (i : ℕ) (d e : X) → i < length xs → slice_index_or xs i d ≡ slice_index_or xs i e
same_item [] i d e h = absurd (omega (arith, h))
same_item (x ∷ xs) zero d e h = refl
same_item (x ∷ xs) (suc i) d e h = same_item xs i d e (omega (arith, h))

-- what does not stay is sparse, and not kept
record IsGone (q : Settings) (mask : Mask) (m : Mesh) (f : ℕ) (l : Loc) : Type 0 where
  sparse : is_sparse q f ≡ true
  slot : (slot_at mask (leaf_number m l) f).kept ≡ false

gone : (q : Settings) (m : Mesh) (mask : Mask) (f : ℕ) (l : Loc) → stays q m mask f l ≡ false → IsGone q mask m f l
gone q m mask f l h = by (is_sparse q f) refl h
  where
    by : (b : Bool) → is_sparse q f ≡ b → (not b || (slot_at mask (leaf_number m l) f).kept) ≡ false → IsGone q mask m f l
    by true e h = record { sparse = e; slot = h }
    by false e h = absurd (false≢true (sym h))

-- and back
out : (q : Settings) (m : Mesh) (mask : Mask) (f : ℕ) (l : Loc) → is_sparse q f ≡ true → (slot_at mask (leaf_number m l) f).kept ≡ false → stays q m mask f l ≡ false
out q m mask f l sparse none = ap (λ (b : Bool). not b || (slot_at mask (leaf_number m l) f).kept) sparse ∙ none

-- the slot of a listed leaf
slot_of : (m : Mesh) (n : ℕ) (each : ℕ → Loc → ℕ → Slot) (f : ℕ) (l : Loc) (i : ℕ) → f < n → ListedAt m.leaves l i → slot_at (masked m.leaves n each) (leaf_number m l) f ≡ each (leaf_number m l) l f
slot_of m n each f l i within at =
    let k : ℕ = leaf_number m l in
    let number = number_of l m.leaves i at.small at.is in
    slot_masked m.leaves n each k f number.small within
    ∙ ap (λ (x : Loc). each k x f) (same_item m.leaves k origin l number.small ∙ number.is)

-- what is not called was not kept, and nothing called for it
not_called : (s : Slot) (calls : Bool) → (called s calls).kept ≡ false → (s.kept ≡ false) × (calls ≡ false)
not_called s calls h = by s.kept refl
  where
    is : (b : Bool) → s.kept ≡ b → (cond b s (record { kept = calls; idle = 0 })).kept ≡ false
    is b e = sym (ap (λ (t : Bool). (cond t s (record { kept = calls; idle = 0 })).kept) e) ∙ h

    by : (b : Bool) → s.kept ≡ b → (s.kept ≡ false) × (calls ≡ false)
    by true e = absurd (false≢true (sym (is true e) ∙ e))
    by false e = (e, is false e)

-- what the check does not keep was not kept, or was idle
not_checked : (q : Settings) (f : ℕ) (idle : Bool) (s : Slot) → (checked_slot q f idle s).kept ≡ false → (s.kept ≡ false) ⊎ (idle ≡ true)
not_checked q f true s h = inr refl
not_checked q f false s h = by s.kept (is_sparse q f) refl refl
  where
    is : (a b : Bool) → s.kept ≡ a → is_sparse q f ≡ b → (cond (a && b) (record s { idle = 0 }) s).kept ≡ false
    is a b ea eb = sym (ap (λ (t : Bool). (cond (t && is_sparse q f) (record s { idle = 0 }) s).kept) ea ∙ ap (λ (t : Bool). (cond (a && t) (record s { idle = 0 }) s).kept) eb) ∙ h

    by : (a b : Bool) → s.kept ≡ a → is_sparse q f ≡ b → (s.kept ≡ false) ⊎ (false ≡ true)
    by false b ea eb = inl ea
    by true true ea eb = inl (is true true ea eb)
    by true false ea eb = inl (is true false ea eb)

-- what has no cell above zero is zero
none_above : (t : ℕ) (m : Mesh) (f : ℕ) (l : Loc) → t ≡ 0 → has_above t m f l ≡ false → (place : ℕ) → place < block_size m → stored m f (cell_at m l place) ≡ 0
none_above t m f l zero_t none place small = by (nat_lt t (stored m f (cell_at m l place))) refl
  where
    nothing : (t x : ℕ) → t ≡ 0 → nat_lt t x ≡ false → x ≡ 0
    nothing t x e h = grind (arith, nat_tests)

    by : (b : Bool) → nat_lt t (stored m f (cell_at m l place)) ≡ b → stored m f (cell_at m l place) ≡ 0
    by true e = absurd (false≢true (sym none ∙ any_range-has (λ k. nat_lt t (stored m f (cell_at m l k))) 0 (block_size m) place (omega arith) (omega arith) e))
    by false e = nothing t _ zero_t e

-- at the start of a cycle
start_out : (q : Settings) (m : Mesh) (mask : Mask) → IsMeshOf q m → IsMaskOf q m mask → IsNothingOut q mask m
start_out q m mask of fit f l i place within at small h =
    let k : ℕ = leaf_number m l in
    let number = number_of l m.leaves i at.small at.is in
    let none = fit.zero k f number.small within (gone q m mask f l h).slot in
    let long = of.cell_lists k f number.small within in
    ap (λ (x : Loc). slice_index (totals_on m (leaf_number m x) f) (place_of m (cell_at m l place))) (block_of_cell m of.mesh.some_cells l place small)
    ∙ ap (λ (n : ℕ). slice_index (totals_on m k f) n) (place_of_cell m of.mesh.some_cells l place small)
    ∙ All-get_or (λ (total : ℕ). total ≡ 0) (totals_on m k f) place _ (omega (arith, long, small)) none

-- the sites of a leaf
sites : (p : Problem) (s : State) (m : Mesh) (l : Loc) (i place : ℕ) → IsMeshOf (settings_of p) s.mesh → OnTreeOf (settings_of p) s.mesh m → ListedAt m.leaves l i → place < block_size m → (axis : ℕ) → axis < m.shape.dims → IsSite m (cell_at m l place) axis
sites p s m l i place of on at small axis used = record {
  mesh = on.mesh;
  even = λ k below. ap (λ (xs : List ℕ). slice_index xs k % 2) (on.cells ∙ of.cells) ∙ p.grid_sound.even k (subst (λ (x : Shape). k < x.dims) on.shape below);
  inside = cell_inside m l place on.mesh (leaf_at m l i on.mesh at).inside small;
  leaf = on_leaf_at m l i place on.mesh at small;
  used = used;
}

-- after a stage
stage_out : (p : Problem) (s : State) (h : Held) → p.alloc_threshold ≡ 0 → IsMeshOf (settings_of p) s.mesh → OnTreeOf (settings_of p) s.mesh h.mesh → IsNothingOut (settings_of p) h.mask h.mesh →
    IsNothingOut (settings_of p) (kept_by_exchange (settings_of p) h.mesh h.mask) (stage (settings_of p) h.mesh)
stage_out p s h threshold of on before f l i place within at small left =
    let q = settings_of p in
    let m = h.mesh in
    let cells = on.mesh.some_cells in
    let c : Loc = cell_at m l place in
    let is : block_of m c ≡ l = block_of_cell m cells l place small in
    let lost = gone q (stage q m) (kept_by_exchange q m h.mask) f l left in
    let slot = slot_of m (field_count q) (λ leaf x g. called (slot_at h.mask leaf g) (exchange_calls q m g x)) f l i within at in
    let none = not_called (slot_at h.mask (leaf_number m l) f) (exchange_calls q m f l) (sym (ap (λ (x : Slot). x.kept) slot) ∙ lost.slot) in
    let empty : (d : Loc) → block_of m d ≡ l → stored m f d ≡ 0 = all_cells m f l on.mesh (λ k few. before f l i k within at few (out q m h.mask f l lost.sparse none.0)) in
    stored_filled m cells (field_count q) f (staged q m) l place i within small at.small at.is
    ∙ stage_nothing p m f c (sites p s m l i place of on at small) threshold within (λ d e. empty d (e ∙ is)) (ap (exchange_calls q m f) is ∙ none.1)

-- after the reaction
reaction_out : (q : Settings) (m : Mesh) (mask : Mask) → q.alloc_threshold ≡ 0 → IsNothingOut q (kept_by_reaction q m mask) m
reaction_out q m mask threshold f l i place within at small left =
    let lost = gone q m (kept_by_reaction q m mask) f l left in
    let slot = slot_of m (field_count q) (λ leaf x g. called (slot_at mask leaf g) (has_above q.alloc_threshold m g x)) f l i within at in
    none_above q.alloc_threshold m f l threshold (not_called (slot_at mask (leaf_number m l) f) (has_above q.alloc_threshold m f l) (sym (ap (λ (x : Slot). x.kept) slot) ∙ lost.slot)).1 place small

-- after the check
check_out : (q : Settings) (m : Mesh) (mask : Mask) → q.dealloc_threshold ≡ 0 → IsNothingOut q mask m → IsNothingOut q (kept_by_check q m mask) m
check_out q m mask threshold before f l i place within at small left =
    let lost = gone q m (kept_by_check q m mask) f l left in
    let slot = slot_of m (field_count q) (λ leaf x g. checked_slot q g (not (has_above q.dealloc_threshold m g x)) (slot_at mask leaf g)) f l i within at in
    ⊎_elim
    (λ (none : (slot_at mask (leaf_number m l) f).kept ≡ false). before f l i place within at small (out q m mask f l lost.sparse none))
    (λ (idle : not (has_above q.dealloc_threshold m f l) ≡ true). none_above q.dealloc_threshold m f l threshold (not_not (has_above q.dealloc_threshold m f l) idle) place small)
    (not_checked q f (not (has_above q.dealloc_threshold m f l)) (slot_at mask (leaf_number m l) f) (sym (ap (λ (x : Slot). x.kept) slot) ∙ lost.slot))
  where
    not_not : (b : Bool) → not b ≡ true → b ≡ false
    not_not false e = refl
    not_not true e = absurd (false≢true e)

-- the states of a cycle
record Same (q : Settings) (h : Held) (m : Mesh) : Type 0 where
  mesh : h.mesh ≡ m
  nothing : IsNothingOut q h.mask h.mesh

stages_same : (p : Problem) (s : State) → p.alloc_threshold ≡ 0 → IsMeshOf (settings_of p) s.mesh → IsMaskOf (settings_of p) s.mesh s.mask → (n : ℕ) → Same (settings_of p) (staged_to (settings_of p) s n) (dense_staged (settings_of p) s.mesh n)
stages_same p s threshold of fit zero = record { mesh = refl; nothing = start_out (settings_of p) s.mesh s.mask of fit }
stages_same p s threshold of fit (suc n) =
    let q = settings_of p in
    let h = staged_to q s n in
    let before = stages_same p s threshold of fit n in
    let on = on_staged q s of n in
    let mask = kept_by_exchange q h.mesh h.mask in
    let nothing = stage_out p s h threshold of on before.nothing in
    let same = cut_same q h.mesh (staged q h.mesh) mask on.mesh.some_cells nothing in
    record {
      mesh = same ∙ ap (stage q) before.mesh;
      nothing = subst (λ (m : Mesh). IsNothingOut q mask m) (sym same) nothing;
    }

masks_same : (p : Problem) (s : State) → p.alloc_threshold ≡ 0 → IsMeshOf (settings_of p) s.mesh → IsMaskOf (settings_of p) s.mesh s.mask → (n : ℕ) → (staged_to (settings_of p) s n).mask ≡ dense_kept (settings_of p) s.mesh s.mask n
masks_same p s threshold of fit zero = refl
masks_same p s threshold of fit (suc n) =
    let q = settings_of p in
    ap (λ (m : Mesh). kept_by_exchange q m (staged_to q s n).mask) (stages_same p s threshold of fit n).mesh
    ∙ ap (kept_by_exchange q (dense_staged q s.mesh n)) (masks_same p s threshold of fit n)

pub zero_thresholds : ZeroThresholdsAreUnmasked
zero_thresholds p react s thresholds of fit =
    let q = settings_of p in
    let fields : ℕ = field_count q in
    let alloc = thresholds.alloc in
    let h = staged_to q s p.nstages in
    let last = stages_same p s alloc of fit p.nstages in
    let m = react_mesh react fields h.mesh in
    let mask = kept_by_reaction q m h.mask in
    let on = on_staged q s of p.nstages in
    let by_reaction : IsNothingOut q mask m = reaction_out q m h.mask alloc in
    let same : (reacted_to q react s).mesh ≡ m = cut_same q h.mesh (λ f c. slice_index (reacted_cell react fields h.mesh c).totals f) mask on.mesh.some_cells by_reaction in
    let dense : m ≡ dense_reacted q react s.mesh = ap (react_mesh react fields) last.mesh in
    let r = reacted_to q react s in
    let nothing : IsNothingOut q r.mask r.mesh = subst (λ (x : Mesh). IsNothingOut q mask x) (sym same) by_reaction in
    let by_check : IsNothingOut q (kept_by_check q r.mesh r.mask) r.mesh = check_out q r.mesh r.mask thresholds.dealloc nothing in
    let end : (checked q react s).mesh ≡ r.mesh = cut_same q m (λ f c. cond (stays q m mask f (block_of m c)) (stored m f c) 0) (kept_by_check q r.mesh r.mask) (on_reacting q react s of).mesh.some_cells by_check in
    let reacted_mask : r.mask ≡ dense_kept_reacted q react s.mesh s.mask =
    ap (λ (x : Mesh). kept_by_reaction q x h.mask) dense ∙ ap (kept_by_reaction q (dense_reacted q react s.mesh)) (masks_same p s alloc of fit p.nstages) in
    record {
      stage_meshes = λ n. (stages_same p s alloc of fit n).mesh;
      stage_masks = masks_same p s alloc of fit;
      reacted_mesh = same ∙ dense;
      reacted_mask = reacted_mask;
      checked_mesh = end ∙ same ∙ dense;
      checked_mask = ap (λ (x : Mesh). kept_by_check q x r.mask) (same ∙ dense) ∙ ap (kept_by_check q (dense_reacted q react s.mesh)) reacted_mask;
      drops = λ f within. over_nothing s.mesh.leaves (leaf_drop q react s f) (λ l i at.
          let in_stages : sum_to p.nstages (λ n. leaf_drop_in_stage q (staged_to q s n) f l) ≡ 0 = sum_zero p.nstages (λ n. leaf_drop_in_stage q (staged_to q s n) f l) (λ n below.
          let k = staged_to q s n in
          let here = on_staged q s of n in
          none_dropped q (stage q k.mesh) (kept_by_exchange q k.mesh k.mask) f l i (stage_out p s k alloc of here (stages_same p s alloc of fit n).nothing) within (subst (λ (xs : List Loc). ListedAt xs l i) (sym here.leaves) at)) in
          let by_kernel : leaf_drop_by_reaction q react h f l ≡ 0 = none_dropped q m mask f l i by_reaction within (subst (λ (xs : List Loc). ListedAt xs l i) (sym on.leaves) at) in
          let at_check : leaf_drop_at_check q r f l ≡ 0 = none_dropped q r.mesh (kept_by_check q r.mesh r.mask) f l i by_check within (subst (λ (xs : List Loc). ListedAt xs l i) (sym (on_reacted q react s of).leaves) at) in
          omega arith);
    }
