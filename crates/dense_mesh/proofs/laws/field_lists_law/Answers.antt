use Rattle.dense_mesh.proofs.Lists as lists
use Rattle.dense_mesh.proofs.laws.field_lists_law.Goals as goal

pub returns : goal.returns
returns c = lists.lists_are_totals
