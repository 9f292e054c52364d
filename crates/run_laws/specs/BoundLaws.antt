-- What the totals of a cycle never pass.
use Rattle.std.specs.Prelude.{◌≡◌, ℕ, ◌+◌, ◌-◌, ◌^◌, ◌<◌, ◌≤◌, List}
use Rattle.morton_order.specs.declared.space.Loc.{Loc}
use Rattle.morton_order.specs.Space.{IsIn}
use Rattle.package_fields.specs.Kernel.{KernelLaws, Reacted}
use Rattle.problem_set.specs.declared.problem.Problem.{Problem}
use Rattle.problem_set.specs.SettingsOf.{settings_of}
use Rattle.mesh_rules.specs.Mesh.{OnLeaf, cell_lattice, stored}
use Rattle.mesh_rules.specs.Fields.{field_count}
use Rattle.mesh_rules.specs.Stage.{loss}
use Rattle.mesh_rules.specs.Cycle.{State, checked, mesh_at, staged_to}
use Rattle.mesh_rules.specs.Run.{Reached, run, running}
use Rattle.mesh_rules.specs.Fit.{IsMeshOf, cycle_inflow, sum_of_all}

-- in no stage of a cycle a total falls below zero: a cell of a leaf pays at most what it has
abbrev pub NoTotalFallsBelowZero : Type 0
NoTotalFallsBelowZero = (p : Problem) (s : State) (stages f : ℕ) (c : Loc) → IsMeshOf (settings_of p) s.mesh → f < field_count (settings_of p) →
    let m = (staged_to (settings_of p) s stages).mesh in
    IsIn (cell_lattice m) c → OnLeaf m c → loss (settings_of p) m f c ≤ stored m f c

-- the sum of all totals grows in a cycle by at most what the problem counts as inflow
abbrev pub SumGrowsByInflow : Type 0
SumGrowsByInflow = (p : Problem) (react : List ℕ → Reacted) (s : State) → KernelLaws (field_count (settings_of p)) react → IsMeshOf (settings_of p) s.mesh →
    sum_of_all (settings_of p) (checked (settings_of p) react s).mesh ≤ sum_of_all (settings_of p) s.mesh + cycle_inflow (settings_of p)

-- where it leaves room for that at the start, it is at most 2^62 - 1 on each mesh of the cycle
abbrev pub NoSumPassesTheBound : Type 0
NoSumPassesTheBound = (p : Problem) (react : List ℕ → Reacted) (s : State) (n : ℕ) → KernelLaws (field_count (settings_of p)) react → IsMeshOf (settings_of p) s.mesh →
    sum_of_all (settings_of p) s.mesh + cycle_inflow (settings_of p) ≤ 2 ^ 62 - 1 →
    sum_of_all (settings_of p) (mesh_at (settings_of p) react s n) ≤ 2 ^ 62 - 1

-- each state with which a cycle of a run starts leaves that room
abbrev pub RunsStayWithin : Type 0
RunsStayWithin = (p : Problem) (react : List ℕ → Reacted) (cycle : ℕ) (r : Reached) → KernelLaws (field_count (settings_of p)) react → cycle < p.nlim →
    run (settings_of p) react cycle ≡ running r → sum_of_all (settings_of p) r.state.mesh + cycle_inflow (settings_of p) ≤ 2 ^ 62 - 1
