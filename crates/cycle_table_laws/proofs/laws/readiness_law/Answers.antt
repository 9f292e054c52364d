use Rattle.cycle_rounds.specs.Events.{replay}
use Rattle.cycle_rounds.proofs.GoOn.{never_stuck}
use Rattle.cycle_rounds.proofs.OrderlyKept.{replay_orderly}
use Rattle.cycle_table_laws.specs.Shows.{Says}
use Rattle.cycle_table_laws.proofs.Readies.{tells}
use Rattle.cycle_table_laws.proofs.laws.readiness_law.Goals as goal

pub returns : goal.returns
returns g c = λ p m events of content v plan legal h.
    tells p plan (Says of content) (replay p m events) (replay_orderly p m plan events legal) (never_stuck g.row.X.Denot g.row.L.Denot g.row.P.Denot p m events plan legal) v h
