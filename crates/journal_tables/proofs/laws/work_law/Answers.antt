use Rattle.cycle_table_laws.specs.Shows.{Says}
use Rattle.journal_tables.proofs.NextTold.{told}
use Rattle.journal_tables.proofs.laws.work_law.Goals as goal

pub returns : goal.returns
returns g k = λ c of content events v work laws h. told c laws (Says of content) events v h work
