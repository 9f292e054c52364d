use Rattle.cycle_events.proofs.EpochsTold.{epochs_are_told, fresh_packs_are_true, packs_stay_true, takes_tell_packs}
use Rattle.cycle_events.proofs.laws.epoch_law.Goals as goal

pub returns-clause-epoch : goal.returns-clause-epoch
returns-clause-epoch g c = epochs_are_told g.row.X.Denot g.row.V.Denot g.row.G.Denot g.row.F.Denot g.row.P.Denot g.row.W.Denot

pub returns-clause-stay : goal.returns-clause-stay
returns-clause-stay g c = packs_stay_true g.row.X.Denot g.row.V.Denot g.row.G.Denot g.row.F.Denot g.row.P.Denot g.row.W.Denot

pub returns-clause-fresh : goal.returns-clause-fresh
returns-clause-fresh g c = fresh_packs_are_true g.row.X.Denot g.row.V.Denot g.row.G.Denot g.row.F.Denot g.row.P.Denot g.row.W.Denot

pub returns-clause-take : goal.returns-clause-take
returns-clause-take g c = takes_tell_packs g.row.X.Denot g.row.V.Denot g.row.G.Denot g.row.F.Denot g.row.P.Denot g.row.W.Denot
