-- What a cycle does to a field's total.
use Rattle.std.proofs.Common.{◌≡◌, ℕ, zero, suc, ◌+◌, ◌-◌, ◌<◌, List, [], ◌∷◌, length, refl, sym, ap, ◌∙◌, subst, arith}
use Rattle.std.specs.List.{slice_index_or, zip}
use Rattle.std.proofs.lemmas.List.Elements.{All-get_or}
use Rattle.morton_order.specs.declared.space.Loc.{Loc}
use Rattle.morton_order.specs.declared.space.Shape.{Shape}
use Rattle.package_fields.specs.declared.field.Field.{Field}
use Rattle.package_fields.specs.Kernel.{KernelLaws, Reacted}
use Rattle.problem_set.specs.Settings.{Settings}
use Rattle.deck_entries.specs.declared.entries.Moves.{Moves}
use Rattle.problem_set.specs.declared.problem.Problem.{Problem}
use Rattle.problem_set.specs.SettingsOf.{settings_of}
use Rattle.problem_set.specs.Rates.{rate_sum}
use Rattle.problem_set.specs.SoundProblem.{IsFittingSum}
use Rattle.mesh_rules.specs.Sums.{sum_over, sum_to}
use Rattle.mesh_rules.specs.Mesh.{total_of}
use Rattle.mesh_rules.specs.Fields.{field_at, field_count}
use Rattle.mesh_rules.specs.Stage.{inflow_of, leaf_inflow, leaf_outflow, outflow_of, stage}
use Rattle.mesh_rules.specs.Reaction.{made_of, react_mesh, used_of}
use Rattle.mesh_rules.specs.Mask.{dropped_of, kept_by_check, kept_by_exchange, kept_by_reaction}
use Rattle.mesh_rules.specs.Cycle.{State, checked, drop_of, flow_of, leaf_drop_at_check, leaf_drop_by_reaction, leaf_drop_in_stage, leaf_flow, reacted_to, staged_to}
use Rattle.mesh_rules.specs.Fit.{IsMeshOf}
use Rattle.mesh_laws.specs.PayLaws.{HasFittingRates}
use Rattle.mesh_laws.proofs.Cells.{over_plus, over_swap}
use Rattle.mesh_laws.proofs.Conserves.{stage_conserves}
use Rattle.mesh_laws.proofs.Drops.{drops_are_what_was_cut}
use Rattle.mesh_laws.proofs.Reactions.{reaction_balances}
use Rattle.mesh_laws.proofs.Totals.{sum_to-same}
use Rattle.run_laws.specs.HistoryLaws.{CyclesBalance}
use Rattle.run_laws.proofs.CycleMeshes.{on_reacted, on_reacting, on_stage, on_staged}

-- lists side by side
pub zip_at : {X Y : Type 0} (xs : List X) (ys : List Y) (i : ℕ) (d : X) (e : Y) → i < length xs → i < length ys → slice_index_or (zip xs ys) i (d, e) ≡ (slice_index_or xs i d, slice_index_or ys i e)
zip_at [] ys i d e h k = absurd (omega (arith, h))
zip_at (x ∷ xs) [] i d e h k = absurd (omega (arith, k))
zip_at (x ∷ xs) (y ∷ ys) zero d e h k = refl
zip_at (x ∷ xs) (y ∷ ys) (suc i) d e h k = zip_at xs ys i d e (omega (arith, h)) (omega (arith, k))

pub zip_length : {X Y : Type 0} (xs : List X) (ys : List Y) → length ys ≡ length xs → length (zip xs ys) ≡ length xs
zip_length [] [] e = refl
zip_length [] (y ∷ ys) e = absurd (omega (arith, e))
zip_length (x ∷ xs) [] e = absurd (omega (arith, e))
zip_length (x ∷ xs) (y ∷ ys) e = omega (arith, zip_length xs ys (omega (arith, e)))

-- the rates of each field of a problem fit at the finest level
pub rates_fit : (p : Problem) (f : ℕ) (s : Shape) → s ≡ p.shape → f < field_count (settings_of p) → HasFittingRates (settings_of p) f s.dims (p.levels - 1)
rates_fit p f s is inside =
    let no_field : Field = field_at (settings_of p) (field_count (settings_of p)) in
    let field = slice_index_or p.fields.fields f in
    let same = p.fields_sound.same_length in
    let P : Field × Moves → Type 0 = λ (q : Field × Moves). IsFittingSum q.1.order (rate_sum p.shape.dims (p.levels - 1) q.0 q.1) p.denominator in
    let at = zip_at p.fields.fields p.moves f _ _ inside (omega (arith, same, inside)) in
    let all = All-get_or P (zip p.fields.fields p.moves) f _ (omega (arith, zip_length p.fields.fields p.moves same, inside)) p.rates_fit in
    subst (λ (x : Shape). HasFittingRates (settings_of p) f x.dims (p.levels - 1)) (sym is)
    (record { positive = p.stepping_sound.cycle_sound.least_denominator; fits = subst P at all })

-- what is dropped in a stage, after the reaction, and at the check
abbrev pub stage_drop : Settings → State → ℕ → ℕ → ℕ
stage_drop p s f n = dropped_of p (kept_by_exchange p (staged_to p s n).mesh (staged_to p s n).mask) (stage p (staged_to p s n).mesh) f

abbrev pub reaction_drop : Settings → (List ℕ → Reacted) → State → ℕ → ℕ
reaction_drop p react s f =
    let m = react_mesh react (field_count p) (staged_to p s p.nstages).mesh in
    dropped_of p (kept_by_reaction p m (staged_to p s p.nstages).mask) m f

abbrev pub check_drop : Settings → (List ℕ → Reacted) → State → ℕ → ℕ
check_drop p react s f =
    let h = reacted_to p react s in
    dropped_of p (kept_by_check p h.mesh h.mask) h.mesh f

-- the total after some stages
pub stages_balance : (p : Problem) (s : State) (f : ℕ) → IsMeshOf (settings_of p) s.mesh → f < field_count (settings_of p) → (n : ℕ)
    → total_of s.mesh f + sum_to n (λ k. inflow_of (settings_of p) (staged_to (settings_of p) s k).mesh f)
    ≡ total_of (staged_to (settings_of p) s n).mesh f + sum_to n (λ k. outflow_of (settings_of p) (staged_to (settings_of p) s k).mesh f) + sum_to n (stage_drop (settings_of p) s f)
stages_balance p s f of inside zero = omega arith
stages_balance p s f of inside (suc n) =
    let q = settings_of p in
    let h = staged_to q s n in
    let on = on_staged q s of n in
    let before = stages_balance p s f of inside n in
    let stage_is = stage_conserves q h.mesh f (p.levels - 1) on.mesh on.coarse (rates_fit p f h.mesh.shape on.shape inside) inside in
    let cut_is = drops_are_what_was_cut q (kept_by_exchange q h.mesh h.mask) (stage q h.mesh) f (on_stage q s.mesh h.mesh on).mesh inside in
    omega (arith, before, stage_is, cut_is)

-- and after the reaction and the check
pub cycle_balances : (p : Problem) (react : List ℕ → Reacted) (s : State) (f : ℕ) → KernelLaws (field_count (settings_of p)) react → IsMeshOf (settings_of p) s.mesh → f < field_count (settings_of p)
    → total_of s.mesh f + sum_to p.nstages (λ k. inflow_of (settings_of p) (staged_to (settings_of p) s k).mesh f) + made_of react (field_count (settings_of p)) (staged_to (settings_of p) s p.nstages).mesh f
    ≡ total_of (checked (settings_of p) react s).mesh f + sum_to p.nstages (λ k. outflow_of (settings_of p) (staged_to (settings_of p) s k).mesh f) + used_of react (field_count (settings_of p)) (staged_to (settings_of p) s p.nstages).mesh f
    + (sum_to p.nstages (stage_drop (settings_of p) s f) + reaction_drop (settings_of p) react s f + check_drop (settings_of p) react s f)
cycle_balances p react s f laws of inside =
    let q = settings_of p in
    let h = staged_to q s p.nstages in
    let on = on_staged q s of p.nstages in
    let m = react_mesh react (field_count q) h.mesh in
    let r = reacted_to q react s in
    let stages = stages_balance p s f of inside p.nstages in
    let reaction = reaction_balances react (field_count q) f h.mesh on.mesh laws inside in
    let cut_is = drops_are_what_was_cut q (kept_by_reaction q m h.mask) m f (on_reacting q react s of).mesh inside in
    let check_is = drops_are_what_was_cut q (kept_by_check q r.mesh r.mask) r.mesh f (on_reacted q react s of).mesh inside in
    omega (arith, stages, reaction, cut_is, check_is)

-- sums over the leaves of the start are sums over those of each mesh of the cycle
leaf_sums : (n : ℕ) (xs : List Loc) (ys : ℕ → List Loc) (g : ℕ → Loc → ℕ) → ((k : ℕ) → ys k ≡ xs) → sum_over xs (λ l. sum_to n (λ k. g k l)) ≡ sum_to n (λ k. sum_over (ys k) (g k))
leaf_sums n xs ys g same =
    over_swap xs n (λ l k. g k l) ∙ sum_to-same n (λ k. sum_over xs (λ l. g k l)) (λ k. sum_over (ys k) (g k)) (λ k below. ap (λ (zs : List Loc). sum_over zs (g k)) (sym (same k)))

pub record FlowIs (p : Settings) (react : List ℕ → Reacted) (s : State) (f : ℕ) : Type 0 where
  pub inflow : (flow_of p react s f).inflow ≡ sum_to p.nstages (λ k. inflow_of p (staged_to p s k).mesh f)
  pub outflow : (flow_of p react s f).outflow ≡ sum_to p.nstages (λ k. outflow_of p (staged_to p s k).mesh f)
  pub made : (flow_of p react s f).made ≡ made_of react (field_count p) (staged_to p s p.nstages).mesh f
  pub used : (flow_of p react s f).used ≡ used_of react (field_count p) (staged_to p s p.nstages).mesh f
  pub drop : drop_of p react s f ≡ sum_to p.nstages (stage_drop p s f) + reaction_drop p react s f + check_drop p react s f

pub flow_is : (p : Settings) (react : List ℕ → Reacted) (s : State) (f : ℕ) → IsMeshOf p s.mesh → FlowIs p react s f
flow_is p react s f of =
    let ls = s.mesh.leaves in
    let on = λ (k : ℕ). on_staged p s of k in
    let last = (on p.nstages).leaves in
    let stages = leaf_sums p.nstages ls (λ k. (staged_to p s k).mesh.leaves) (λ k. leaf_drop_in_stage p (staged_to p s k) f) (λ k. (on k).leaves) in
    let reaction : sum_over ls (leaf_drop_by_reaction p react (staged_to p s p.nstages) f) ≡ reaction_drop p react s f = ap (λ (zs : List Loc). sum_over zs (leaf_drop_by_reaction p react (staged_to p s p.nstages) f)) (sym last) in
    let check : sum_over ls (leaf_drop_at_check p (reacted_to p react s) f) ≡ check_drop p react s f = ap (λ (zs : List Loc). sum_over zs (leaf_drop_at_check p (reacted_to p react s) f)) (sym (on_reacted p react s of).leaves) in
    let in_stages : Loc → ℕ = λ l. sum_to p.nstages (λ n. leaf_drop_in_stage p (staged_to p s n) f l) in
    let by_reaction : Loc → ℕ = leaf_drop_by_reaction p react (staged_to p s p.nstages) f in
    let at_check : Loc → ℕ = leaf_drop_at_check p (reacted_to p react s) f in
    let split = over_plus ls (λ l. in_stages l + by_reaction l) at_check in
    let parts = over_plus ls in_stages by_reaction in
    record {
      inflow = leaf_sums p.nstages ls (λ k. (staged_to p s k).mesh.leaves) (λ k. leaf_inflow p (staged_to p s k).mesh f) (λ k. (on k).leaves);
      outflow = leaf_sums p.nstages ls (λ k. (staged_to p s k).mesh.leaves) (λ k. leaf_outflow p (staged_to p s k).mesh f) (λ k. (on k).leaves);
      made = ap (λ (zs : List Loc). sum_over zs (λ l. (leaf_flow p react s f l).made)) (sym last);
      used = ap (λ (zs : List Loc). sum_over zs (λ l. (leaf_flow p react s f l).used)) (sym last);
      drop = split ∙ omega (arith, parts, stages, reaction, check);
    }

pub cycles_balance : CyclesBalance
cycles_balance p react s f laws of inside =
    let q = settings_of p in
    let flow = flow_is q react s f of in
    omega (arith, cycle_balances p react s f laws of inside, flow.inflow, flow.outflow, flow.made, flow.used, flow.drop)
