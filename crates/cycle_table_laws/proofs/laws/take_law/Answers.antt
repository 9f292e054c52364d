use Rattle.cycle_rounds.specs.Events.{replay}
use Rattle.cycle_rounds.proofs.OrderlyKept.{replay_orderly}
use Rattle.cycle_table_laws.specs.Shows.{Says}
use Rattle.cycle_table_laws.proofs.Takings.{takes_as}
use Rattle.cycle_table_laws.proofs.laws.take_law.Goals as goal

pub returns : goal.returns
returns g c = λ p m events of content v plan legal h seat i may.
    takes_as p plan m (Says of content) (replay p m events) (replay_orderly p m plan events legal) v h seat i may
