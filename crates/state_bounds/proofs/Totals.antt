-- What the totals of a field come to in the stages of a cycle.
use Rattle.std.proofs.Common.{◌≡◌, ℕ, zero, suc, ◌+◌, ◌-◌, ◌*◌, ◌^◌, ◌<◌, ◌≤◌, List, [], ◌∷◌, length, arith, ap, ◌∙◌}
use Rattle.std.specs.List.{slice_index_or}
use Rattle.std.proofs.Math.Nat.{mul-le-mul_left}
use Rattle.morton_order.specs.declared.space.Loc.{Loc}
use Rattle.problem_set.specs.SettingsOf.{settings_of}
use Rattle.mesh_rules.specs.Sums.{sum_over, sum_to}
use Rattle.mesh_rules.specs.Mesh.{Mesh, block_size, cell_at, sum_cells, sum_on, total_of}
use Rattle.mesh_rules.specs.Fields.{field_count}
use Rattle.mesh_rules.specs.Stage.{inflow_of, staged}
use Rattle.mesh_laws.proofs.Conserves.{stage_conserves}
use Rattle.mesh_laws.proofs.Fillings.{filled_sum}
use Rattle.mesh_laws.proofs.Pays.{term_least}
use Rattle.run_laws.proofs.CycleBounds.{all_within, field_within, most_inflow, stages_add}
use Rattle.run_laws.proofs.CycleMeshes.{on_staged}
use Rattle.run_laws.proofs.CycleTotals.{rates_fit}
use Rattle.run_laws.proofs.Inflows.{inflow_within}
use Rattle.block_layout.specs.Indices.{IsWithin, index_of, number_of}
use Rattle.block_layout.proofs.Boxes.{number_bound, number_index}
use Rattle.block_geometry.specs.Blocks.{cell_in}
use Rattle.kernel_stages.proofs.Places.{cell_is}
use Rattle.masked_cycles.specs.Cycles.{Cycle, IsCycle}
use Rattle.masked_cycles.specs.States.{mesh_of_stage}

-- one cell of a leaf counts in the sum over all cells
over_least : {X : Type 0} (xs : List X) (none : X) (g : X → ℕ) (k : ℕ) → k < length xs → g (slice_index_or xs k none) ≤ sum_over xs g
over_least [] none g k few = absurd (omega arith)
over_least (x ∷ xs) none g zero few = omega arith
over_least (x ∷ xs) none g (suc k) few = let more = over_least xs none g k (omega (arith, few)) in omega (arith, more)

abbrev pub leaf_in : Mesh → ℕ → Loc
leaf_in m b = slice_index_or m.leaves b (record { level = 0; l1 = 0; l2 = 0; l3 = 0 })

pub cell_counts : (m : Mesh) (each : Loc → ℕ) (b : ℕ) (i : List ℕ) → b < length m.leaves → IsWithin m.cells i → each (cell_in m (leaf_in m b) i) ≤ sum_cells m each
cell_counts m each b i few inside =
    let o : Loc = leaf_in m b in
    let n : ℕ = number_of m.cells i in
    let at : each (cell_at m o n) ≡ each (cell_in m o i) = ap each (cell_is m o (index_of m.cells n) i (number_index m.cells i inside)) in
    let cell = term_least (block_size m) (λ p. each (cell_at m o p)) n (number_bound m.cells i inside) in
    let leaf = over_least m.leaves (record { level = 0; l1 = 0; l2 = 0; l3 = 0 }) (λ v. sum_on m v each) b few in
    omega (arith, at, cell, leaf)

-- what all fields have before a stage
pub all_before : (c : Cycle) (n : ℕ) → IsCycle c → n ≤ c.problem.nstages → sum_to (field_count (settings_of c.problem)) (total_of (mesh_of_stage c n)) ≤ 2 ^ 62 - 1
all_before c n is most =
    let p = c.problem in
    let added = stages_add p c.state is.fit.mesh n in
    let few : most_inflow p * n ≤ most_inflow p * p.nstages = mul-le-mul_left (most_inflow p) most in
    omega (arith, added, few, is.fit.room)

-- what one has
pub field_before : (c : Cycle) (n f : ℕ) → IsCycle c → n ≤ c.problem.nstages → f < field_count (settings_of c.problem) → total_of (mesh_of_stage c n) f < 2 ^ 62
field_before c n f is most some =
    let all = all_before c n is most in
    let one = term_least (field_count (settings_of c.problem)) (total_of (mesh_of_stage c n)) f some in
    omega (arith, all, one)

-- and what it has after the stage, before what is not kept is made zero
pub field_after : (c : Cycle) (n f : ℕ) → IsCycle c → n < c.problem.nstages → f < field_count (settings_of c.problem) → sum_cells (mesh_of_stage c n) (staged (settings_of c.problem) (mesh_of_stage c n) f) < 2 ^ 62
field_after c n f is more some =
    let p = c.problem in
    let q = settings_of p in
    let m = mesh_of_stage c n in
    let on = on_staged q c.state is.fit.mesh n in
    let balance = stage_conserves q m f (p.levels - 1) on.mesh on.coarse (rates_fit p f m.shape on.shape some) some in
    let whole = filled_sum m on.mesh.some_cells (field_count q) f (staged q m) some in
    let enters = all_within p m (λ g inside. field_within p m g on.shape (on.cells ∙ is.fit.mesh.cells) (inflow_within q m g (p.levels - 1) on.mesh on.shape on.coarse (rates_fit p g m.shape on.shape inside))) in
    let one = term_least (field_count q) (inflow_of q m) f some in
    let had = term_least (field_count q) (total_of m) f some in
    let added = stages_add p c.state is.fit.mesh n in
    let few : most_inflow p * suc n ≤ most_inflow p * p.nstages = mul-le-mul_left (most_inflow p) (omega (arith, more)) in
    let split : most_inflow p * suc n ≡ most_inflow p * n + most_inflow p = grind arith in
    omega (arith, balance, whole, enters, one, had, added, few, split, is.fit.room)
