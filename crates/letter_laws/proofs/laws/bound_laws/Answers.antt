use Rattle.letter_laws.proofs.Bounds.{looks_bounded, parts_below, regions_bounded, written_below}
use Rattle.letter_laws.proofs.laws.bound_laws.Goals as goal

pub returns-clause-looks : goal.returns-clause-looks
returns-clause-looks c = looks_bounded

pub returns-clause-regions : goal.returns-clause-regions
returns-clause-regions c = regions_bounded

pub returns-clause-parts : goal.returns-clause-parts
returns-clause-parts c = parts_below

pub returns-clause-written : goal.returns-clause-written
returns-clause-written c = written_below
