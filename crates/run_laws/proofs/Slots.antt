-- The slots of the masks of a run.
use Rattle.std.proofs.Common.{◌≡◌, ◌==◌, ℕ, zero, suc, ◌+◌, ◌-◌, ◌<◌, ◌≤◌, Bool, true, false, cond, ◌&&◌, ◌||◌, not, nat_le, nat_lt, List, [], ◌∷◌, length, map, All, refl, sym, ap, ◌∙◌, subst, arith, ⊎_elim}
use Rattle.std.specs.List.{enumerate_from, slice_index_or}
use Rattle.std.proofs.lemmas.Bool.{false≢true}
use Rattle.std.proofs.lemmas.Bool.Decides.{nat_tests}
use Rattle.std.proofs.lemmas.List.{length-map}
use Rattle.std.proofs.lemmas.List.FromFn.{length-map-range_with_len}
use Rattle.morton_order.specs.declared.space.Loc.{Loc}
use Rattle.problem_set.specs.Settings.{Settings}
use Rattle.problem_set.specs.declared.problem.Problem.{Problem}
use Rattle.problem_set.specs.SettingsOf.{settings_of}
use Rattle.package_fields.specs.Kernel.{Reacted}
use Rattle.mesh_rules.specs.Sums.{table}
use Rattle.mesh_rules.specs.Mesh.{Mesh}
use Rattle.mesh_rules.specs.Fields.{field_count, is_sparse}
use Rattle.mesh_rules.specs.Reaction.{react_mesh}
use Rattle.mesh_rules.specs.Mask.{Mask, Slot, absent, called, checked_slot, exchange_calls, has_above, kept_at_start, kept_by_check, kept_by_exchange, kept_by_reaction, masked, slot_at}
use Rattle.mesh_rules.specs.Cycle.{State, checked, reacted_to, staged_to}
use Rattle.mesh_rules.specs.Opening.{opening_mesh, opening_state}
use Rattle.mesh_rules.specs.Fit.{IsMeshOf}
use Rattle.run_laws.specs.MaskLaws.{FitsSlot, MaskFits, MasksStayFit, OpeningMaskFits}
use Rattle.run_laws.proofs.CycleMeshes.{on_reacted, on_reacting, on_staged}
use Rattle.run_laws.proofs.RunTrees.{mapped, table_at}

pub origin : Loc
origin = record { level = 0; l1 = 0; l2 = 0; l3 = 0 }

-- the items of a list with their numbers
pub length_enumerated : {X : Type 0} (first : ℕ) (xs : List X) → length (enumerate_from first xs) ≡ length xs
length_enumerated first [] = refl
length_enumerated first (x ∷ xs) = let e = length_enumerated (first + 1) xs in omega arith

enumerated_at : (first : ℕ) (xs : List Loc) (i : ℕ) (d : ℕ × Loc) → i < length xs → slice_index_or (enumerate_from first xs) i d ≡ (first + i, slice_index_or xs i origin)
enumerated_at first [] i d h = absurd (omega (arith, h))
enumerated_at first (x ∷ xs) zero d h = let e : first ≡ first + 0 = omega arith in ap (λ (k : ℕ). (k, x)) e
enumerated_at first (x ∷ xs) (suc i) d h = let e : first + 1 + i ≡ first + suc i = omega arith in enumerated_at (first + 1) xs i d (omega (arith, h)) ∙ ap (λ (k : ℕ). (k, slice_index_or xs i origin)) e

-- the slots of a mask that is made leaf by leaf
slots_of : (leaves : List Loc) (n : ℕ) (each : ℕ → Loc → ℕ → Slot) (leaf : ℕ) → leaf < length leaves → slice_index_or (masked leaves n each) leaf [] ≡ table n (each leaf (slice_index_or leaves leaf origin))
slots_of leaves n each leaf inside =
    let g : ℕ × Loc → List Slot = λ (x : ℕ × Loc). table n (each x.0 x.1) in
    let many = length_enumerated 0 leaves in
    let z : 0 + leaf ≡ leaf = omega arith in
    mapped g (enumerate_from 0 leaves) leaf (0, origin) [] (omega (arith, many, inside))
    ∙ ap g (enumerated_at 0 leaves leaf (0, origin) inside)
    ∙ ap (λ (k : ℕ). table n (each k (slice_index_or leaves leaf origin))) z

pub slot_masked : (leaves : List Loc) (n : ℕ) (each : ℕ → Loc → ℕ → Slot) (leaf f : ℕ) → leaf < length leaves → f < n → slot_at (masked leaves n each) leaf f ≡ each leaf (slice_index_or leaves leaf origin) f
slot_masked leaves n each leaf f inside within =
    ap (λ (xs : List Slot). slice_index_or xs f absent) (slots_of leaves n each leaf inside) ∙ table_at n (each leaf (slice_index_or leaves leaf origin)) f absent within

-- a mask whose slots fit
pub masked_fits : (q : Settings) (leaves : List Loc) (each : ℕ → Loc → ℕ → Slot) → ((leaf f : ℕ) → leaf < length leaves → f < field_count q → FitsSlot q f (each leaf (slice_index_or leaves leaf origin) f)) → MaskFits q leaves (masked leaves (field_count q) each)
masked_fits q leaves each fits = record {
  leaf_slots = length-map (enumerate_from 0 leaves) (λ (x : ℕ × Loc). table (field_count q) (each x.0 x.1)) ∙ length_enumerated 0 leaves;
  field_slots = λ leaf inside. ap (λ (xs : List Slot). length xs) (slots_of leaves (field_count q) each leaf inside) ∙ length-map-range_with_len _ 0 (field_count q);
  slots = λ leaf f inside within. subst (λ (s : Slot). FitsSlot q f s) (sym (slot_masked leaves (field_count q) each leaf f inside within)) (fits leaf f inside within);
}

-- a slot that fits goes on fitting
slot_kept : (s : Slot) (b : Bool) → s.kept ≡ b → (calls : Bool) → called s calls ≡ cond b s (record { kept = calls; idle = 0 })
slot_kept s b e calls = ap (λ (t : Bool). cond t s (record { kept = calls; idle = 0 })) e

called_fits : (q : Settings) (f : ℕ) (s : Slot) (calls : Bool) → 1 ≤ q.dealloc_count → FitsSlot q f s → FitsSlot q f (called s calls)
called_fits q f s calls some fit = by s.kept refl
  where
    by : (b : Bool) → s.kept ≡ b → FitsSlot q f (called s calls)
    by true e = subst (λ (t : Slot). FitsSlot q f t) (sym (slot_kept s true e calls)) fit
    by false e = subst (λ (t : Slot). FitsSlot q f t) (sym (slot_kept s false e calls)) (record { always = λ h. absurd (false≢true (sym e ∙ fit.always h)); fresh = λ h. refl; idle = omega arith })

checked_cases : (q : Settings) (f : ℕ) (s : Slot) (a b c d : Bool) → 1 ≤ q.dealloc_count → FitsSlot q f s → s.kept ≡ a → is_sparse q f ≡ b → nat_le q.dealloc_count (s.idle + 1) ≡ d → FitsSlot q f (cond (a && b) (cond c (cond d absent (record s { idle = s.idle + 1 })) (record s { idle = 0 })) s)
checked_cases q f s true true true true some fit ea eb ed = record { always = λ h. absurd (false≢true (sym h ∙ eb)); fresh = λ h. refl; idle = omega arith }
checked_cases q f s true true true false some fit ea eb ed = record { always = λ h. ea; fresh = λ h. absurd (false≢true (sym h ∙ ea)); idle = above q.dealloc_count (s.idle + 1) ed }
  where
    above : (a b : ℕ) → nat_le a b ≡ false → b < a
    above a b e = grind (arith, nat_tests)
checked_cases q f s true true false d some fit ea eb ed = record { always = λ h. ea; fresh = λ h. refl; idle = omega arith }
checked_cases q f s true false c d some fit ea eb ed = fit
checked_cases q f s false b c d some fit ea eb ed = fit

checked_fits : (q : Settings) (f : ℕ) (s : Slot) (is_idle : Bool) → 1 ≤ q.dealloc_count → FitsSlot q f s → FitsSlot q f (checked_slot q f is_idle s)
checked_fits q f s is_idle some fit = by s.kept (is_sparse q f) (nat_le q.dealloc_count (s.idle + 1)) refl refl refl
  where
    by : (a b d : Bool) → s.kept ≡ a → is_sparse q f ≡ b → nat_le q.dealloc_count (s.idle + 1) ≡ d → FitsSlot q f (checked_slot q f is_idle s)
    by a b d ea eb ed =
        subst (λ (t : Slot). FitsSlot q f t) (sym
        (ap (λ (x : Bool). cond (x && is_sparse q f) (cond is_idle (cond (nat_le q.dealloc_count (s.idle + 1)) absent (record s { idle = s.idle + 1 })) (record s { idle = 0 })) s) ea
        ∙ ap (λ (x : Bool). cond (a && x) (cond is_idle (cond (nat_le q.dealloc_count (s.idle + 1)) absent (record s { idle = s.idle + 1 })) (record s { idle = 0 })) s) eb
        ∙ ap (λ (x : Bool). cond (a && b) (cond is_idle (cond x absent (record s { idle = s.idle + 1 })) (record s { idle = 0 })) s) ed))
        (checked_cases q f s a b is_idle d some fit ea eb ed)

-- the masks of a cycle
some_checks : (p : Problem) → 1 ≤ p.dealloc_count
some_checks p = p.stepping_sound.sparsity_sound.least_count

on_same : (q : Settings) (xs ys : List Loc) (each : ℕ → Loc → ℕ → Slot) → ys ≡ xs → ((leaf f : ℕ) → leaf < length xs → f < field_count q → FitsSlot q f (each leaf (slice_index_or xs leaf origin) f)) → MaskFits q xs (masked ys (field_count q) each)
on_same q xs ys each same fits = subst (λ (zs : List Loc). MaskFits q xs (masked zs (field_count q) each)) (sym same) (masked_fits q xs each fits)

pub staged_fits : (p : Problem) (s : State) → IsMeshOf (settings_of p) s.mesh → MaskFits (settings_of p) s.mesh.leaves s.mask → (n : ℕ) → MaskFits (settings_of p) s.mesh.leaves (staged_to (settings_of p) s n).mask
staged_fits p s of fit zero = fit
staged_fits p s of fit (suc n) =
    let q = settings_of p in
    let h = staged_to q s n in
    let before = staged_fits p s of fit n in
    on_same q s.mesh.leaves h.mesh.leaves (λ leaf l f. called (slot_at h.mask leaf f) (exchange_calls q h.mesh f l)) (on_staged q s of n).leaves
    (λ leaf f inside within. called_fits q f (slot_at h.mask leaf f) (exchange_calls q h.mesh f (slice_index_or s.mesh.leaves leaf origin)) (some_checks p) (before.slots leaf f inside within))

pub reacted_fits : (p : Problem) (react : List ℕ → Reacted) (s : State) → IsMeshOf (settings_of p) s.mesh → MaskFits (settings_of p) s.mesh.leaves s.mask → MaskFits (settings_of p) s.mesh.leaves (reacted_to (settings_of p) react s).mask
reacted_fits p react s of fit =
    let q = settings_of p in
    let h = staged_to q s p.nstages in
    let m = react_mesh react (field_count q) h.mesh in
    let before = staged_fits p s of fit p.nstages in
    on_same q s.mesh.leaves m.leaves (λ leaf l f. called (slot_at h.mask leaf f) (has_above p.alloc_threshold m f l)) (on_reacting q react s of).leaves
    (λ leaf f inside within. called_fits q f (slot_at h.mask leaf f) (has_above p.alloc_threshold m f (slice_index_or s.mesh.leaves leaf origin)) (some_checks p) (before.slots leaf f inside within))

pub masks_stay : MasksStayFit
masks_stay p react s of fit =
    let q = settings_of p in
    let h = reacted_to q react s in
    let before = reacted_fits p react s of fit in
    on_same q s.mesh.leaves h.mesh.leaves (λ leaf l f. checked_slot q f (not (has_above p.dealloc_threshold h.mesh f l)) (slot_at h.mask leaf f)) (on_reacted q react s of).leaves
    (λ leaf f inside within. checked_fits q f (slot_at h.mask leaf f) (not (has_above p.dealloc_threshold h.mesh f (slice_index_or s.mesh.leaves leaf origin))) (some_checks p) (before.slots leaf f inside within))

pub opening_fits : OpeningMaskFits
opening_fits p =
    let q = settings_of p in
    let m = opening_mesh q in
    masked_fits q m.leaves (λ _ l f. called absent (not (is_sparse q f) || has_above 0 m f l))
    (λ leaf f inside within. record {
      always = λ h. ap (λ (b : Bool). not b || has_above 0 m f (slice_index_or m.leaves leaf origin)) h;
      fresh = λ h. refl;
      idle = some_checks p;
    })
