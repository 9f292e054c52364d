-- What of a field passes the faces of the domain, and what reactions make and use of it.
use Rattle.std.specs.Prelude.{ℕ, ◌+◌, ◌<◌, Bool, nat_eq}
use Rattle.package_fields.specs.declared.flow.Flow.{Flow}

-- nothing came in or went out, and nothing was made or used
abbrev pub no_flow : Flow
no_flow = record { inflow = 0; outflow = 0; made = 0; used = 0 }

-- each part of a flow is below a limit
pub record IsBelow (limit : ℕ) (flow : Flow) : Type 0 where
  pub inflow_below : flow.inflow < limit
  pub outflow_below : flow.outflow < limit
  pub made_below : flow.made < limit
  pub used_below : flow.used < limit

-- whether a flow tells how a total became another: 5 with 2 in, 1 out, 3 made and 4 used is 5 again
abbrev pub balanced : ℕ → Flow → ℕ → Bool
balanced before flow after = nat_eq (before + flow.inflow + flow.made) (after + flow.outflow + flow.used)
