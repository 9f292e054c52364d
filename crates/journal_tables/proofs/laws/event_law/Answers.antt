use Rattle.cycle_table_laws.specs.Shows.{Says}
use Rattle.journal_tables.proofs.Following.{delivers_next, gives_next, takes_next}
use Rattle.journal_tables.proofs.laws.event_law.Goals as goal

pub returns-clause-take : goal.returns-clause-take
returns-clause-take g k = λ c of content events v laws h. takes_next c laws (Says of content) events v h

pub returns-clause-give : goal.returns-clause-give
returns-clause-give g k = λ c of content events v laws h. gives_next c laws (Says of content) events v h

pub returns-clause-deliver : goal.returns-clause-deliver
returns-clause-deliver g k = λ c of content events v laws h. delivers_next c laws (Says of content) events v h
