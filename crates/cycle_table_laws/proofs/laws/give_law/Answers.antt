use Rattle.cycle_rounds.specs.Events.{replay}
use Rattle.cycle_rounds.specs.Events.Event.{give}
use Rattle.cycle_rounds.proofs.EventCounts.{sent_most}
use Rattle.cycle_table_laws.specs.Shows.{Says}
use Rattle.cycle_table_laws.proofs.Givings.{gives_as}
use Rattle.cycle_table_laws.proofs.laws.give_law.Goals as goal

pub returns : goal.returns
returns g c = λ p m events of content v plan legal h seat i letters may stand.
    gives_as p plan m (Says of content) (replay p m events) v h seat i may letters stand (sent_most p m events (give seat i) legal may)
