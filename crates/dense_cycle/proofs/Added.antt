-- Sums of one more stage.
use Rattle.std.proofs.Common.{◌≡◌, ◌∙◌, ℕ, zero, suc, ◌+◌, ◌*◌, ◌<◌, ◌≤◌, ◌^◌, List, All, length, replicate, ap, arith, subst, sym}
use Rattle.std.specs.Prelude.{slice_index}
use Rattle.std.proofs.lemmas.List.{get_or-replicate, length-replicate}
use Rattle.std.proofs.lemmas.List.Elements.{All-from_get_or}
use Rattle.package_fields.specs.declared.flow.Flow.{Flow}
use Rattle.package_fields.specs.Flow.{no_flow}
use Rattle.problem_set.specs.Settings.{Settings}
use Rattle.problem_set.specs.declared.problem.Problem.{Problem}
use Rattle.problem_set.specs.SettingsOf.{settings_of}
use Rattle.mesh_rules.specs.Sums.{sum_to, table}
use Rattle.mesh_rules.specs.Fields.{field_count}
use Rattle.mesh_rules.specs.Stage.{inflow_of, outflow_of}
use Rattle.mesh_rules.specs.Cycle.{Held, State, staged_to}
use Rattle.mesh_rules.specs.Fit.{IsFit}
use Rattle.mesh_rules.specs.Mask.{kept_by_exchange}
use Rattle.mesh_rules.specs.Stage as rules
use Rattle.run_laws.proofs.CycleMeshes.{on_stage, on_staged}
use Rattle.dense_mesh.proofs.Tables.{table_at, table_by, table_length}
use Rattle.dense_cycle.specs.declared.fields.DomainFlow.{DomainFlow}
use Rattle.dense_cycle.specs.declared.sums.StageSums.{StageSums}
use Rattle.dense_cycle.specs.Fields.{passed_of}
use Rattle.dense_cycle.specs.Flows.{CanAdd, HasSums, drop_in, drop_of_stage, flow_in}
use Rattle.dense_cycle.specs.Sums.{IsSmallFlow, flow_at, flow_with, passed_at}
use Rattle.dense_cycle.proofs.Bounds.{dropped_le, passes_few, stage_room}

-- all items of a table have a property
pub all_in_table : {X : Type 0} (P : X → Type 0) (n : ℕ) (f : ℕ → X) (xs : List X) (d : X) → xs ≡ table n f → ((k : ℕ) → k < n → P (f k)) → All P xs
all_in_table P n f xs d is each = subst (All P) (sym is) (All-from_get_or P (table n f) d (λ k small. let inside : k < n = omega (arith, small, table_length n f) in subst P (sym (table_at n f k d inside)) (each k inside)))

-- a sum of few small numbers
pub sum_small : (n b : ℕ) (each : ℕ → ℕ) → ((k : ℕ) → k < n → each k < b) → sum_to n each ≤ n * b
sum_small zero b each small = omega arith
sum_small (suc n) b each small =
    let before = sum_small n b each (λ k below. small k (omega (arith, below))) in
    let here = small n (omega arith) in
    let e : suc n * b ≡ n * b + b = grind arith in
    omega (arith, before, here, e)

few_stages : (n : ℕ) → n ≤ 4 → n * 2 ^ 63 < 2 ^ 66
few_stages n few = omega (arith, few)

-- the sums of stages are small
pub record SmallSums (p : Problem) (s : State) (n f : ℕ) : Type 0 where
  pub inflow : (flow_in (settings_of p) s n f).inflow < 2 ^ 66
  pub outflow : (flow_in (settings_of p) s n f).outflow < 2 ^ 66
  pub dropped : drop_in (settings_of p) s n f < 2 ^ 66

-- what is dropped in a stage is small
pub stage_drops_few : (p : Problem) (s : State) → IsFit (settings_of p) s → (n f : ℕ) → n < p.nstages → f < field_count (settings_of p) → drop_of_stage (settings_of p) (staged_to (settings_of p) s n) f < 2 ^ 62
stage_drops_few p s fit n f more inside =
    let q = settings_of p in
    let h = staged_to q s n in
    let le = dropped_le q (kept_by_exchange q h.mesh h.mask) (rules.stage q h.mesh) f (on_stage q s.mesh h.mesh (on_staged q s fit.mesh n)).mesh inside in
    omega (arith, le, stage_room p s fit n more)

pub small_sums : (p : Problem) (s : State) → IsFit (settings_of p) s → (n f : ℕ) → n ≤ p.nstages → f < field_count (settings_of p) → SmallSums p s n f
small_sums p s fit n f most inside =
    let q = settings_of p in
    let few : n ≤ 4 = omega (arith, most, p.stepping_sound.cycle_sound.most_stages) in
    let bound = few_stages n few in
    let ins = sum_small n (2 ^ 63) (λ k. inflow_of q (staged_to q s k).mesh f) (λ k below. let x = (passes_few p s fit k f (omega (arith, below, most)) inside).inflow in omega (arith, x)) in
    let outs = sum_small n (2 ^ 63) (λ k. outflow_of q (staged_to q s k).mesh f) (λ k below. (passes_few p s fit k f (omega (arith, below, most)) inside).outflow) in
    let drops = sum_small n (2 ^ 63) (λ k. drop_of_stage q (staged_to q s k) f) (λ k below. let x = stage_drops_few p s fit k f (omega (arith, below, most)) inside in omega (arith, x)) in
    record { inflow = omega (arith, ins, bound); outflow = omega (arith, outs, bound); dropped = omega (arith, drops, bound) }

-- what a stage passes and drops can be added to those of the stages before it
pub can_add : (p : Problem) (s : State) → IsFit (settings_of p) s → (n : ℕ) (h : Held) (sums : StageSums) → n < p.nstages → h ≡ staged_to (settings_of p) s n → HasSums (settings_of p) s n sums → CanAdd (settings_of p) h sums
can_add p s fit n h sums more is has =
    let q = settings_of p in
    let N = field_count q in
    let small : (f : ℕ) → f < N → SmallSums p s n f = λ f inside. small_sums p s fit n f (omega (arith, more)) inside in
    record {
      flow_count = ap (λ (v : List Flow). length v) has.flows ∙ table_length N (flow_in q s n);
      drop_count = ap (λ (v : List ℕ). length v) has.drops ∙ table_length N (drop_in q s n);
      flows = all_in_table IsSmallFlow N (flow_in q s n) sums.flows.items no_flow has.flows
          (λ f inside. let x = small f inside in let a = x.inflow in let b = x.outflow in record { inflow = omega (arith, a); outflow = omega (arith, b) });
      drops = all_in_table (λ k. k < 2 ^ 100) N (drop_in q s n) sums.drops.items 0 has.drops (λ f inside. let x = (small f inside).dropped in omega (arith, x));
      passed = λ f inside. subst (λ (x : Held). (inflow_of q x.mesh f < 2 ^ 64) × (outflow_of q x.mesh f < 2 ^ 64)) (sym is)
          (let x = passes_few p s fit n f more inside in let a = x.inflow in let b = x.outflow in (omega (arith, a), omega (arith, b)));
      dropped = λ f inside. subst (λ (x : Held). drop_of_stage q x f < 2 ^ 64) (sym is) (let x = stage_drops_few p s fit n f more inside in omega (arith, x));
    }

-- the sums with one more stage
pub sums_next : (q : Settings) (s : State) (n : ℕ) (h : Held) (old new : StageSums) (passed : List DomainFlow) (dropped : List ℕ) → h ≡ staged_to q s n → HasSums q s n old
    → passed ≡ table (field_count q) (passed_of q h.mesh) → dropped ≡ table (field_count q) (drop_of_stage q h)
    → length new.flows.items ≡ length old.flows.items → ((k : ℕ) → k < length old.flows.items → flow_at new.flows.items k ≡ flow_with (flow_at old.flows.items k) (passed_at passed k))
    → length new.drops.items ≡ length old.drops.items → ((k : ℕ) → k < length old.drops.items → slice_index new.drops.items k ≡ slice_index old.drops.items k + slice_index dropped k)
    → HasSums q s (n + 1) new
sums_next q s n h old new passed dropped is has passes drops flow_count flows drop_count numbers =
    let N = field_count q in
    let many_flows : length old.flows.items ≡ N = ap (λ (v : List Flow). length v) has.flows ∙ table_length N (flow_in q s n) in
    let many_drops : length old.drops.items ≡ N = ap (λ (v : List ℕ). length v) has.drops ∙ table_length N (drop_in q s n) in
    let flow : (k : ℕ) → k < N → flow_at new.flows.items k ≡ flow_in q s (suc n) k = λ k inside.
    flows k (omega (arith, inside, many_flows))
    ∙ ap (λ (v : List Flow). flow_with (flow_at v k) (passed_at passed k)) has.flows
    ∙ ap (λ (x : Flow). flow_with x (passed_at passed k)) (table_at N (flow_in q s n) k no_flow inside)
    ∙ ap (λ (v : List DomainFlow). flow_with (flow_in q s n k) (passed_at v k)) passes
    ∙ ap (flow_with (flow_in q s n k)) (table_at N (passed_of q h.mesh) k (record { inflow = 0; outflow = 0 }) inside)
    ∙ ap (λ (x : Held). flow_with (flow_in q s n k) (passed_of q x.mesh k)) is in
    let drop : (k : ℕ) → k < N → slice_index new.drops.items k ≡ drop_in q s (suc n) k = λ k inside.
    numbers k (omega (arith, inside, many_drops))
    ∙ ap (λ (v : List ℕ). slice_index v k + slice_index dropped k) has.drops
    ∙ ap (λ x. x + slice_index dropped k) (table_at N (drop_in q s n) k 0 inside)
    ∙ ap (λ (v : List ℕ). drop_in q s n k + slice_index v k) drops
    ∙ ap (λ x. drop_in q s n k + x) (table_at N (drop_of_stage q h) k 0 inside)
    ∙ ap (λ (x : Held). drop_in q s n k + drop_of_stage q x k) is in
    let e : suc n ≡ n + 1 = omega arith in
    subst (λ k. HasSums q s k new) e (record {
      flows = table_by new.flows.items N (flow_in q s (suc n)) no_flow (flow_count ∙ many_flows) flow;
      drops = table_by new.drops.items N (drop_in q s (suc n)) 0 (drop_count ∙ many_drops) drop;
    })

-- before the first stage nothing has passed
pub replicate_table : {X : Type 0} (n : ℕ) (x : X) → replicate n x ≡ table n (λ _. x)
replicate_table n x = table_by (replicate n x) n (λ _. x) x (length-replicate n x) (λ k inside. get_or-replicate n k x x inside)

pub no_sums : (q : Settings) (s : State) (n : ℕ) (sums : StageSums) → n ≡ field_count q → sums.flows.items ≡ replicate n no_flow → sums.drops.items ≡ replicate n 0 → HasSums q s 0 sums
no_sums q s n sums many flows drops = record {
  flows = flows ∙ replicate_table n no_flow ∙ ap (λ k. table k (flow_in q s 0)) many;
  drops = drops ∙ replicate_table n 0 ∙ ap (λ k. table k (drop_in q s 0)) many;
}
