-- What the totals of a cycle never pass.
use Rattle.std.proofs.Common.{◌≡◌, ℕ, zero, suc, ◌+◌, ◌-◌, ◌*◌, ◌^◌, ◌<◌, ◌≤◌, List, arith, subst, sym, ◌∙◌, ⊎_elim}
use Rattle.std.proofs.Math.Nat.{mul-le-mul_left}
use Rattle.std.proofs.lemmas.Bool.{cases_lt}
use Rattle.package_fields.specs.Kernel.{KernelLaws, Reacted}
use Rattle.problem_set.specs.Settings.{Settings}
use Rattle.problem_set.specs.declared.problem.Problem.{Problem}
use Rattle.problem_set.specs.SettingsOf.{settings_of}
use Rattle.mesh_rules.specs.Sums.{sum_to}
use Rattle.mesh_rules.specs.Mesh.{IsMesh, Mesh, total_of}
use Rattle.mesh_rules.specs.Fields.{field_count}
use Rattle.mesh_rules.specs.Stage.{inflow_of, outflow_of, stage}
use Rattle.mesh_rules.specs.Reaction.{react_mesh}
use Rattle.mesh_rules.specs.Mask.{Mask, cut, dropped_of}
use Rattle.mesh_rules.specs.Cycle.{State, staged_to}
use Rattle.mesh_rules.specs.Fit.{IsFit, IsMeshOf, sum_of_all}
use Rattle.mesh_laws.proofs.Conserves.{stage_conserves}
use Rattle.mesh_laws.proofs.Drops.{drops_are_what_was_cut}
use Rattle.mesh_laws.proofs.Grids.{sum_plus}
use Rattle.mesh_laws.proofs.Reactions.{reaction_keeps_sum}
use Rattle.run_laws.proofs.CycleBounds.{all_within, field_within, most_inflow, stages_add}
use Rattle.run_laws.proofs.CycleMeshes.{on_staged}
use Rattle.run_laws.proofs.CycleTotals.{rates_fit}
use Rattle.run_laws.proofs.Inflows.{inflow_within, sum_to_le}

-- making some of it zero adds nothing
pub cut_le : (q : Settings) (mask : Mask) (m : Mesh) → IsMesh m → sum_of_all q (cut q mask m) ≤ sum_of_all q m
cut_le q mask m mesh = sum_to_le (field_count q) (total_of (cut q mask m)) (total_of m) (λ f inside. omega (arith, drops_are_what_was_cut q mask m f mesh inside))

-- what may come in during a stage
pub inflows_le : (p : Problem) (s : State) → IsMeshOf (settings_of p) s.mesh → (n : ℕ) → sum_to (field_count (settings_of p)) (inflow_of (settings_of p) (staged_to (settings_of p) s n).mesh) ≤ most_inflow p
inflows_le p s of n =
    let q = settings_of p in
    let m = (staged_to q s n).mesh in
    let on = on_staged q s of n in
    all_within p m (λ f inside. field_within p m f on.shape (on.cells ∙ of.cells) (inflow_within q m f (p.levels - 1) on.mesh on.shape on.coarse (rates_fit p f m.shape on.shape inside)))

-- a stage adds at most that
pub stage_le : (p : Problem) (s : State) → IsMeshOf (settings_of p) s.mesh → (n : ℕ) → sum_of_all (settings_of p) (stage (settings_of p) (staged_to (settings_of p) s n).mesh) ≤ sum_of_all (settings_of p) (staged_to (settings_of p) s n).mesh + most_inflow p
stage_le p s of n =
    let q = settings_of p in
    let m = (staged_to q s n).mesh in
    let on = on_staged q s of n in
    let fields = field_count q in
    let le = sum_to_le fields (total_of (stage q m)) (λ f. total_of m f + inflow_of q m f)
    (λ f inside. omega (arith, stage_conserves q m f (p.levels - 1) on.mesh on.coarse (rates_fit p f m.shape on.shape inside) inside)) in
    let split = sum_plus fields (total_of m) (inflow_of q m) in
    omega (arith, le, split, inflows_le p s of n)

-- where a cycle has room, so has each of its stages
pub staged_room : (p : Problem) (s : State) → IsFit (settings_of p) s → (n : ℕ) → n < p.nstages →
    sum_of_all (settings_of p) (staged_to (settings_of p) s n).mesh + most_inflow p ≤ 2 ^ 62 - 1
staged_room p s fit n more =
    let before = stages_add p s fit.mesh n in
    let le : most_inflow p * suc n ≤ most_inflow p * p.nstages = mul-le-mul_left (most_inflow p) (omega (arith, more)) in
    let e : most_inflow p * suc n ≡ most_inflow p * n + most_inflow p = grind arith in
    omega (arith, before, le, e, fit.room)

pub stage_room : (p : Problem) (s : State) → IsFit (settings_of p) s → (n : ℕ) → n < p.nstages →
    sum_of_all (settings_of p) (stage (settings_of p) (staged_to (settings_of p) s n).mesh) ≤ 2 ^ 62 - 1
stage_room p s fit n more = omega (arith, stage_le p s fit.mesh n, staged_room p s fit n more)

pub staged_bound : (p : Problem) (s : State) → IsFit (settings_of p) s → (n : ℕ) → n ≤ p.nstages → sum_of_all (settings_of p) (staged_to (settings_of p) s n).mesh ≤ 2 ^ 62 - 1
staged_bound p s fit n most =
    let before = stages_add p s fit.mesh n in
    let le : most_inflow p * n ≤ most_inflow p * p.nstages = mul-le-mul_left (most_inflow p) most in
    omega (arith, before, le, fit.room)

-- one of some numbers is at most their sum
pub one_le : (n : ℕ) (each : ℕ → ℕ) (k : ℕ) → k < n → each k ≤ sum_to n each
one_le zero each k h = absurd (omega (arith, h))
one_le (suc n) each k h = ⊎_elim (λ (below : k < n). omega (arith, one_le n each k below)) (λ (here : n ≤ k). let e : k ≡ n = omega (arith, here, h) in subst (λ i. each i ≤ sum_to n each + each n) (sym e) (omega arith)) (cases_lt k n)

-- what passes the faces of the domain of one field in a stage, and what is dropped of it
pub record PassesFew (p : Problem) (s : State) (n f : ℕ) : Type 0 where
  pub inflow : inflow_of (settings_of p) (staged_to (settings_of p) s n).mesh f < 2 ^ 62
  pub outflow : outflow_of (settings_of p) (staged_to (settings_of p) s n).mesh f < 2 ^ 63

pub passes_few : (p : Problem) (s : State) → IsFit (settings_of p) s → (n f : ℕ) → n < p.nstages → f < field_count (settings_of p) → PassesFew p s n f
passes_few p s fit n f more inside =
    let q = settings_of p in
    let m = (staged_to q s n).mesh in
    let on = on_staged q s fit.mesh n in
    let room = staged_room p s fit n more in
    let ins = inflows_le p s fit.mesh n in
    let one = one_le (field_count q) (inflow_of q m) f inside in
    let total = one_le (field_count q) (total_of m) f inside in
    let balance = stage_conserves q m f (p.levels - 1) on.mesh on.coarse (rates_fit p f m.shape on.shape inside) inside in
    record {
      inflow = omega (arith, room, ins, one);
      outflow = omega (arith, room, ins, one, total, balance);
    }

-- what is dropped of a field is at most its total
pub dropped_le : (q : Settings) (mask : Mask) (m : Mesh) (f : ℕ) → IsMesh m → f < field_count q → dropped_of q mask m f ≤ sum_of_all q m
dropped_le q mask m f mesh inside = omega (arith, drops_are_what_was_cut q mask m f mesh inside, one_le (field_count q) (total_of m) f inside)

-- a reaction keeps the sum
pub reacted_sum : (q : Settings) (react : List ℕ → Reacted) (m : Mesh) → IsMesh m → KernelLaws (field_count q) react → sum_of_all q (react_mesh react (field_count q) m) ≡ sum_of_all q m
reacted_sum q react m mesh laws = reaction_keeps_sum react (field_count q) m mesh laws
