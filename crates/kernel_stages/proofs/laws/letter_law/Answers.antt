use Rattle.kernel_stages.proofs.DueLetters.{flux_letters_are_due, ghost_letters_are_due}
use Rattle.kernel_stages.proofs.laws.letter_law.Goals as goal

pub returns-clause-ghosts : goal.returns-clause-ghosts
returns-clause-ghosts c = ghost_letters_are_due

pub returns-clause-fluxes : goal.returns-clause-fluxes
returns-clause-fluxes c = flux_letters_are_due
