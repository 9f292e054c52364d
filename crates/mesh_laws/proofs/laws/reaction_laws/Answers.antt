use Rattle.mesh_laws.proofs.Reactions as reactions
use Rattle.mesh_laws.proofs.laws.reaction_laws.Goals as goal

pub returns-clause-sum : goal.returns-clause-sum
returns-clause-sum c = reactions.reaction_keeps_sum

pub returns-clause-balance : goal.returns-clause-balance
returns-clause-balance c = reactions.reaction_balances
