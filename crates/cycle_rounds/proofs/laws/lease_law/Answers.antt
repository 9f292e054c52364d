use Rattle.cycle_rounds.proofs.LetterLaws.{leases_stay, others_leave}
use Rattle.cycle_rounds.proofs.laws.lease_law.Goals as goal

pub returns-clause-stays : goal.returns-clause-stays
returns-clause-stays g c = leases_stay g.row.X.Denot g.row.L.Denot g.row.P.Denot

pub returns-clause-alone : goal.returns-clause-alone
returns-clause-alone g c = others_leave g.row.X.Denot g.row.L.Denot g.row.P.Denot
