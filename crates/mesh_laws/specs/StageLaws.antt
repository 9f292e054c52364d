-- What a stage conserves.
use Rattle.std.specs.Prelude.{◌≡◌, ℕ, ◌+◌, ◌<◌}
use Rattle.problem_set.specs.Settings.{Settings}
use Rattle.mesh_rules.specs.Mesh.{IsMesh, Mesh, total_of}
use Rattle.mesh_rules.specs.Fields.{field_count}
use Rattle.mesh_rules.specs.Stage.{inflow_of, outflow_of, stage}
use Rattle.mesh_laws.specs.PayLaws.{HasFittingRates, IsNoFiner}

-- on any balanced tree a stage changes a field's total by what comes in and goes out alone, by either order
abbrev pub StageConserves : Type 0
StageConserves = (p : Settings) (m : Mesh) (f finest : ℕ) → IsMesh m → IsNoFiner m finest → HasFittingRates p f m.shape.dims finest → f < field_count p →
    total_of (stage p m) f + outflow_of p m f ≡ total_of m f + inflow_of p m f
