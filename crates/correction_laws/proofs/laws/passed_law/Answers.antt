use Rattle.correction_laws.proofs.Passed as passed
use Rattle.correction_laws.proofs.laws.passed_law.Goals as goal

pub returns : goal.returns
returns c = passed.passed_are_sides
