use Rattle.cell_block.proofs.Meshes.{counts_are_kept, slots_are_places, totals_are_interiors}
use Rattle.cell_block.proofs.laws.state_laws.Goals as goal

pub returns-clause-totals : goal.returns-clause-totals
returns-clause-totals c = totals_are_interiors

pub returns-clause-slots : goal.returns-clause-slots
returns-clause-slots c = slots_are_places

pub returns-clause-counts : goal.returns-clause-counts
returns-clause-counts c = counts_are_kept
