use Rattle.block_tree.proofs.Behinds.{behind_is_exact, behind_is_mutual}
use Rattle.block_tree.proofs.laws.behind_laws.Goals as goal

pub returns-clause-exact : goal.returns-clause-exact
returns-clause-exact c = behind_is_exact

pub returns-clause-mutual : goal.returns-clause-mutual
returns-clause-mutual c = behind_is_mutual
