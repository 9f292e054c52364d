use Rattle.cycle_sums.proofs.Counted.{deliveries_count_nothing, gives_count, openings_count_nothing, takes_count_nothing}
use Rattle.cycle_sums.proofs.laws.sum_law.Goals as goal

pub returns-clause-opening : goal.returns-clause-opening
returns-clause-opening g k = openings_count_nothing g.row.X.Denot g.row.V.Denot g.row.G.Denot g.row.F.Denot g.row.P.Denot g.row.W.Denot

pub returns-clause-take : goal.returns-clause-take
returns-clause-take g k = takes_count_nothing g.row.X.Denot g.row.V.Denot g.row.G.Denot g.row.F.Denot g.row.P.Denot g.row.W.Denot

pub returns-clause-deliver : goal.returns-clause-deliver
returns-clause-deliver g k = deliveries_count_nothing g.row.X.Denot g.row.V.Denot g.row.G.Denot g.row.F.Denot g.row.P.Denot g.row.W.Denot

pub returns-clause-give : goal.returns-clause-give
returns-clause-give g k = gives_count g.row.X.Denot g.row.V.Denot g.row.G.Denot g.row.F.Denot g.row.P.Denot g.row.W.Denot
