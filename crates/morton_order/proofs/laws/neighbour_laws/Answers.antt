use Rattle.morton_order.proofs.Touching.{neighbours_exact, touching_back}
use Rattle.morton_order.proofs.laws.neighbour_laws.Goals as goal

pub returns-clause-exact : goal.returns-clause-exact
returns-clause-exact c = neighbours_exact

pub returns-clause-mutual : goal.returns-clause-mutual
returns-clause-mutual c = touching_back
