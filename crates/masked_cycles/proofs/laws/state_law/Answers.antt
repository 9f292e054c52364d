use Rattle.masked_cycles.proofs.States.{letters_hold, states_hold}
use Rattle.masked_cycles.proofs.laws.state_law.Goals as goal

pub returns-clause-states : goal.returns-clause-states
returns-clause-states c = states_hold

pub returns-clause-letters : goal.returns-clause-letters
returns-clause-letters c = letters_hold
