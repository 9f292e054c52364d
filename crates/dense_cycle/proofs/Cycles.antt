-- Flows and drops of a whole cycle.
use Rattle.std.proofs.Common.{◌≡◌, ◌∙◌, ℕ, ◌+◌, ◌<◌, ◌^◌, List, All, length, ap, arith, refl, subst, sym}
use Rattle.std.specs.Prelude.{slice_index}
use Rattle.package_fields.specs.declared.flow.Flow.{Flow}
use Rattle.package_fields.specs.Flow.{no_flow}
use Rattle.package_fields.specs.Kernel.{KernelLaws, Reacted}
use Rattle.problem_set.specs.Settings.{Settings}
use Rattle.problem_set.specs.declared.problem.Problem.{Problem}
use Rattle.problem_set.specs.SettingsOf.{settings_of}
use Rattle.mesh_rules.specs.Sums.{table}
use Rattle.mesh_rules.specs.Fields.{field_count}
use Rattle.mesh_rules.specs.Mask.{kept_by_check, kept_by_reaction}
use Rattle.mesh_rules.specs.Reaction.{made_of, react_mesh, used_of}
use Rattle.mesh_rules.specs.Cycle.{Held, State, drop_of, flow_of, reacted_to, staged_to}
use Rattle.mesh_rules.specs.Fit.{IsFit, IsMaskOf}
use Rattle.run_laws.specs.MaskLaws.{MaskFits}
use Rattle.run_laws.proofs.CycleBounds.{reacted_le}
use Rattle.run_laws.proofs.CycleMeshes.{on_reacted, on_reacting, on_staged}
use Rattle.run_laws.proofs.CycleTotals.{flow_is}
use Rattle.run_laws.proofs.Slots.{reacted_fits}
use Rattle.dense_mesh.proofs.Tables.{table_at, table_by, table_length}
use Rattle.dense_cycle.specs.declared.sums.StageSums.{StageSums}
use Rattle.dense_cycle.specs.Flows.{HasReacted, HasSums, drop_at_check, drop_in, drop_of_reaction, flow_in}
use Rattle.dense_cycle.specs.Sums.{flow_at, reacted_flow}
use Rattle.dense_cycle.proofs.Added.{all_in_table, small_sums}
use Rattle.dense_cycle.proofs.Bounds.{dropped_le, reacted_sum, staged_bound}

-- flows are one where their numbers are
same_flow : (a b : Flow) → a.inflow ≡ b.inflow → a.outflow ≡ b.outflow → a.made ≡ b.made → a.used ≡ b.used → a ≡ b
same_flow a b i o m u =
    ap (λ v. let x : Flow = record { inflow = v; outflow = a.outflow; made = a.made; used = a.used } in x) i
    ∙ ap (λ v. let x : Flow = record { inflow = b.inflow; outflow = v; made = a.made; used = a.used } in x) o
    ∙ ap (λ v. let x : Flow = record { inflow = b.inflow; outflow = b.outflow; made = v; used = a.used } in x) m
    ∙ ap (λ v. let x : Flow = record { inflow = b.inflow; outflow = b.outflow; made = b.made; used = v } in x) u

-- what a reaction drops is small
pub reaction_drops_few : (p : Problem) (react : List ℕ → Reacted) (s : State) → KernelLaws (field_count (settings_of p)) react → IsFit (settings_of p) s → (h : Held) → h ≡ staged_to (settings_of p) s p.nstages → (f : ℕ) → f < field_count (settings_of p) → drop_of_reaction (settings_of p) react h f < 2 ^ 62
reaction_drops_few p react s laws fit h is f inside =
    let q = settings_of p in
    let last = staged_to q s p.nstages in
    let m = react_mesh react (field_count q) last.mesh in
    let le = dropped_le q (kept_by_reaction q m last.mask) m f (on_reacting q react s fit.mesh).mesh inside in
    let same = reacted_sum q react last.mesh (on_staged q s fit.mesh p.nstages).mesh laws in
    let bound = staged_bound p s fit p.nstages (omega arith) in
    subst (λ (x : Held). drop_of_reaction q react x f < 2 ^ 62) (sym is) (omega (arith, le, same, bound))

-- and so is what the check drops
pub check_drops_few : (p : Problem) (react : List ℕ → Reacted) (s : State) → KernelLaws (field_count (settings_of p)) react → IsFit (settings_of p) s → (h : Held) → h ≡ reacted_to (settings_of p) react s → (f : ℕ) → f < field_count (settings_of p) → drop_at_check (settings_of p) h f < 2 ^ 62
check_drops_few p react s laws fit h is f inside =
    let q = settings_of p in
    let r = reacted_to q react s in
    let le = dropped_le q (kept_by_check q r.mesh r.mask) r.mesh f (on_reacted q react s fit.mesh).mesh inside in
    let less = reacted_le p react s laws fit.mesh in
    let bound = staged_bound p s fit p.nstages (omega arith) in
    subst (λ (x : Held). drop_at_check q x f < 2 ^ 62) (sym is) (omega (arith, le, less, bound))

-- the sums of all stages with what a reaction made, used and dropped
pub reacted_sums : (p : Problem) (react : List ℕ → Reacted) (s : State) → IsFit (settings_of p) s → (h : Held) (old new : StageSums) (made used dropped : List ℕ) → h ≡ staged_to (settings_of p) s p.nstages → HasSums (settings_of p) s p.nstages old
    → made ≡ table (field_count (settings_of p)) (made_of react (field_count (settings_of p)) h.mesh) → used ≡ table (field_count (settings_of p)) (used_of react (field_count (settings_of p)) h.mesh) → dropped ≡ table (field_count (settings_of p)) (drop_of_reaction (settings_of p) react h)
    → length new.flows.items ≡ length old.flows.items → ((k : ℕ) → k < length old.flows.items → flow_at new.flows.items k ≡ reacted_flow (flow_at old.flows.items k) (slice_index made k) (slice_index used k))
    → length new.drops.items ≡ length old.drops.items → ((k : ℕ) → k < length old.drops.items → slice_index new.drops.items k ≡ slice_index old.drops.items k + slice_index dropped k)
    → HasReacted (settings_of p) react s new
reacted_sums p react s fit h old new made used dropped is has made_is used_is dropped_is flow_count flows drop_count numbers =
    let q = settings_of p in
    let N = field_count q in
    let n = p.nstages in
    let last = staged_to q s n in
    let many_flows : length old.flows.items ≡ N = ap (λ (v : List Flow). length v) has.flows ∙ table_length N (flow_in q s n) in
    let many_drops : length old.drops.items ≡ N = ap (λ (v : List ℕ). length v) has.drops ∙ table_length N (drop_in q s n) in
    let made_at : (k : ℕ) → k < N → slice_index made k ≡ made_of react N last.mesh k = λ k inside. ap (λ (v : List ℕ). slice_index v k) made_is ∙ table_at N (made_of react N h.mesh) k 0 inside ∙ ap (λ (x : Held). made_of react N x.mesh k) is in
    let used_at : (k : ℕ) → k < N → slice_index used k ≡ used_of react N last.mesh k = λ k inside. ap (λ (v : List ℕ). slice_index v k) used_is ∙ table_at N (used_of react N h.mesh) k 0 inside ∙ ap (λ (x : Held). used_of react N x.mesh k) is in
    let flow : (k : ℕ) → k < N → flow_at new.flows.items k ≡ flow_of q react s k = λ k inside.
    let whole = flow_is q react s k fit.mesh in
    flows k (omega (arith, inside, many_flows))
    ∙ ap (λ (v : List Flow). reacted_flow (flow_at v k) (slice_index made k) (slice_index used k)) has.flows
    ∙ ap (λ (x : Flow). reacted_flow x (slice_index made k) (slice_index used k)) (table_at N (flow_in q s n) k no_flow inside)
    ∙ same_flow _ _ (sym whole.inflow) (sym whole.outflow) (made_at k inside ∙ sym whole.made) (used_at k inside ∙ sym whole.used) in
    let drop : (k : ℕ) → k < N → slice_index new.drops.items k ≡ drop_in q s n k + drop_of_reaction q react last k = λ k inside.
    numbers k (omega (arith, inside, many_drops))
    ∙ ap (λ (v : List ℕ). slice_index v k + slice_index dropped k) has.drops
    ∙ ap (λ x. x + slice_index dropped k) (table_at N (drop_in q s n) k 0 inside)
    ∙ ap (λ (v : List ℕ). drop_in q s n k + slice_index v k) dropped_is
    ∙ ap (λ x. drop_in q s n k + x) (table_at N (drop_of_reaction q react h) k 0 inside)
    ∙ ap (λ (x : Held). drop_in q s n k + drop_of_reaction q react x k) is in
    record {
      flows = table_by new.flows.items N (flow_of q react s) no_flow (flow_count ∙ many_flows) flow;
      drops = table_by new.drops.items N (λ k. drop_in q s n k + drop_of_reaction q react last k) 0 (drop_count ∙ many_drops) drop;
    }

-- with what the check drops they are those of the cycle
pub settled_drops : (p : Problem) (react : List ℕ → Reacted) (s : State) → IsFit (settings_of p) s → (h : Held) (old : StageSums) (new dropped : List ℕ) → h ≡ reacted_to (settings_of p) react s → HasReacted (settings_of p) react s old
    → dropped ≡ table (field_count (settings_of p)) (drop_at_check (settings_of p) h) → length new ≡ length old.drops.items → ((k : ℕ) → k < length old.drops.items → slice_index new k ≡ slice_index old.drops.items k + slice_index dropped k)
    → new ≡ table (field_count (settings_of p)) (drop_of (settings_of p) react s)
settled_drops p react s fit h old new dropped is has dropped_is count numbers =
    let q = settings_of p in
    let N = field_count q in
    let before : ℕ → ℕ = λ k. drop_in q s p.nstages k + drop_of_reaction q react (staged_to q s p.nstages) k in
    let many : length old.drops.items ≡ N = ap (λ (v : List ℕ). length v) has.drops ∙ table_length N before in
    table_by new N (drop_of q react s) 0 (count ∙ many)
    (λ k inside.
    numbers k (omega (arith, inside, many))
    ∙ ap (λ (v : List ℕ). slice_index v k + slice_index dropped k) has.drops
    ∙ ap (λ x. x + slice_index dropped k) (table_at N before k 0 inside)
    ∙ ap (λ (v : List ℕ). before k + slice_index v k) dropped_is
    ∙ ap (λ x. before k + x) (table_at N (drop_at_check q h) k 0 inside)
    ∙ ap (λ (x : Held). before k + drop_at_check q x k) is
    ∙ sym (flow_is q react s k fit.mesh).drop)

-- drops so far are small
pub reacted_small : (p : Problem) (react : List ℕ → Reacted) (s : State) → KernelLaws (field_count (settings_of p)) react → IsFit (settings_of p) s → (sums : StageSums) → HasReacted (settings_of p) react s sums → All (λ n. n < 2 ^ 100) sums.drops.items
reacted_small p react s laws fit sums has =
    let q = settings_of p in
    all_in_table (λ n. n < 2 ^ 100) (field_count q) (λ k. drop_in q s p.nstages k + drop_of_reaction q react (staged_to q s p.nstages) k) sums.drops.items 0 has.drops
    (λ f inside. let a = (small_sums p s fit p.nstages f (omega arith) inside).dropped in let b = reaction_drops_few p react s laws fit (staged_to q s p.nstages) refl f inside in omega (arith, a, b))

pub staged_small : (p : Problem) (s : State) → IsFit (settings_of p) s → (sums : StageSums) → HasSums (settings_of p) s p.nstages sums → All (λ n. n < 2 ^ 100) sums.drops.items
staged_small p s fit sums has =
    let q = settings_of p in
    all_in_table (λ n. n < 2 ^ 100) (field_count q) (drop_in q s p.nstages) sums.drops.items 0 has.drops (λ f inside. let a = (small_sums p s fit p.nstages f (omega arith) inside).dropped in omega (arith, a))

-- the mask after the reaction fits
pub mask_fits : (q : Settings) (s : State) → IsMaskOf q s.mesh s.mask → MaskFits q s.mesh.leaves s.mask
mask_fits q s fit = record {
  leaf_slots = fit.leaf_slots;
  field_slots = fit.field_slots;
  slots = λ leaf f inside within. record { always = fit.always leaf f inside within; fresh = fit.fresh leaf f inside within; idle = fit.idle leaf f inside within };
}

pub reacted_mask : (p : Problem) (react : List ℕ → Reacted) (s : State) → IsFit (settings_of p) s → (h : Held) → h ≡ reacted_to (settings_of p) react s → MaskFits (settings_of p) s.mesh.leaves h.mask
reacted_mask p react s fit h is = subst (λ (x : Held). MaskFits (settings_of p) s.mesh.leaves x.mask) (sym is) (reacted_fits p react s fit.mesh (mask_fits (settings_of p) s fit.mask))
