use Rattle.cycle_sums.proofs.Wished.{deliveries_wish_nothing, gives_wish, openings_wish_nothing, others_wish_nothing, setting_tells, takes_wish_nothing}
use Rattle.cycle_sums.proofs.laws.wish_law.Goals as goal

pub returns-clause-opening : goal.returns-clause-opening
returns-clause-opening g k = openings_wish_nothing g.row.X.Denot g.row.V.Denot g.row.G.Denot g.row.F.Denot g.row.P.Denot g.row.W.Denot

pub returns-clause-take : goal.returns-clause-take
returns-clause-take g k = takes_wish_nothing g.row.X.Denot g.row.V.Denot g.row.G.Denot g.row.F.Denot g.row.P.Denot g.row.W.Denot

pub returns-clause-deliver : goal.returns-clause-deliver
returns-clause-deliver g k = deliveries_wish_nothing g.row.X.Denot g.row.V.Denot g.row.G.Denot g.row.F.Denot g.row.P.Denot g.row.W.Denot

pub returns-clause-give : goal.returns-clause-give
returns-clause-give g k = gives_wish g.row.X.Denot g.row.V.Denot g.row.G.Denot g.row.F.Denot g.row.P.Denot g.row.W.Denot

pub returns-clause-others : goal.returns-clause-others
returns-clause-others g k = others_wish_nothing g.row.X.Denot g.row.V.Denot g.row.G.Denot g.row.F.Denot g.row.P.Denot g.row.W.Denot

pub returns-clause-set : goal.returns-clause-set
returns-clause-set g k = setting_tells g.row.X.Denot g.row.V.Denot g.row.G.Denot g.row.F.Denot g.row.P.Denot g.row.W.Denot
