use Rattle.cycle_table_laws.specs.Shows.{Says}
use Rattle.journal_tables.proofs.Following.{start_follows, state_next}
use Rattle.journal_tables.proofs.laws.start_law.Goals as goal

pub returns-clause-start : goal.returns-clause-start
returns-clause-start g k = λ c of content due d. start_follows c (Says of content) due d

pub returns-clause-next : goal.returns-clause-next
returns-clause-next g k = λ c of content events e. state_next c (Says of content) events e
