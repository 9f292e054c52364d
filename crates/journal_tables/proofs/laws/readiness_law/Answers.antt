use Rattle.cycle_table_laws.specs.Shows.{Says}
use Rattle.journal_tables.proofs.Following.{tells_next}
use Rattle.journal_tables.proofs.laws.readiness_law.Goals as goal

pub returns : goal.returns
returns g k = λ c of content events v laws h. tells_next c laws (Says of content) events v h
