use Rattle.journal_tables.proofs.Told.{deliveries_tell, gives_tell}
use Rattle.journal_tables.proofs.laws.round_law.Goals as goal

pub returns-clause-give : goal.returns-clause-give
returns-clause-give g k = gives_tell g.row.T.Denot

pub returns-clause-deliver : goal.returns-clause-deliver
returns-clause-deliver g k = deliveries_tell g.row.T.Denot
