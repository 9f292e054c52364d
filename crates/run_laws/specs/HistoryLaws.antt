-- What a row of the history adds up to.
use Rattle.std.specs.Prelude.{◌≡◌, ℕ, suc, ◌+◌, ◌<◌, List}
use Rattle.package_fields.specs.declared.flow.Flow.{Flow}
use Rattle.package_fields.specs.Kernel.{KernelLaws, Reacted}
use Rattle.problem_set.specs.declared.problem.Problem.{Problem}
use Rattle.problem_set.specs.SettingsOf.{settings_of}
use Rattle.mesh_rules.specs.Mesh.{Mesh, total_of}
use Rattle.mesh_rules.specs.Fields.{field_count}
use Rattle.mesh_rules.specs.Cycle.{State, checked, drop_of, flow_of}
use Rattle.mesh_rules.specs.Run.{Reached, last_drop, last_flow, run, running}
use Rattle.mesh_rules.specs.Fit.{IsMeshOf}

-- previous total + in + made = total + out + used + drop: 10 with 3 in, 2 out and 1 dropped are 10 again
abbrev pub RowBalances : Mesh → Mesh → ℕ → Flow → ℕ → Type 0
RowBalances before after f flow drop = total_of before f + flow.inflow + flow.made ≡ total_of after f + flow.outflow + flow.used + drop

-- a cycle from any state on a mesh of a problem, with any kernel
abbrev pub CyclesBalance : Type 0
CyclesBalance = (p : Problem) (react : List ℕ → Reacted) (s : State) (f : ℕ) → KernelLaws (field_count (settings_of p)) react → IsMeshOf (settings_of p) s.mesh → f < field_count (settings_of p) →
    RowBalances s.mesh (checked (settings_of p) react s).mesh f (flow_of (settings_of p) react s f) (drop_of (settings_of p) react s f)

-- each row of the history of a run, remeshing included
abbrev pub HistoryBalances : Type 0
HistoryBalances = (p : Problem) (react : List ℕ → Reacted) (cycle f : ℕ) (before after : Reached) → KernelLaws (field_count (settings_of p)) react → f < field_count (settings_of p) →
    run (settings_of p) react cycle ≡ running before → run (settings_of p) react (suc cycle) ≡ running after →
    RowBalances before.state.mesh after.state.mesh f (last_flow after f) (last_drop after f)
