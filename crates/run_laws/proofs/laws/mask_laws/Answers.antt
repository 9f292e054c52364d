use Rattle.run_laws.proofs.Outside.{cycles_zero}
use Rattle.run_laws.proofs.Slots.{masks_stay, opening_fits}
use Rattle.run_laws.proofs.laws.mask_laws.Goals as goal

pub returns-clause-outside : goal.returns-clause-outside
returns-clause-outside c = cycles_zero

pub returns-clause-opening : goal.returns-clause-opening
returns-clause-opening c = opening_fits

pub returns-clause-cycles : goal.returns-clause-cycles
returns-clause-cycles c = masks_stay
