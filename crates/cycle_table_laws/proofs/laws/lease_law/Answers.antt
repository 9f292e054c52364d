use Rattle.cycle_rounds.specs.Events.{replay}
use Rattle.cycle_rounds.proofs.OrderlyKept.{replay_orderly}
use Rattle.cycle_table_laws.proofs.Leases.{letters_stay, reads_its_letters}
use Rattle.cycle_table_laws.proofs.laws.lease_law.Goals as goal

pub returns-clause-stay : goal.returns-clause-stay
returns-clause-stay g c = λ p m events e i plan legal may own out. letters_stay p m plan (replay p m events) (replay_orderly p m plan events legal) e i may own out

pub returns-clause-hold : goal.returns-clause-hold
returns-clause-hold g c = reads_its_letters
