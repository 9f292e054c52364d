use Rattle.cycle_table_laws.specs.Shows.{Says}
use Rattle.cycle_table_laws.proofs.Deliveries.{begins}
use Rattle.cycle_table_laws.proofs.laws.begin_law.Goals as goal

pub returns : goal.returns
returns g c = λ p m of content due d. begins p m (Says of content) due d
