-- What a worklist does with a set of inner nodes; this retells code, and no statement for readers cites it.
use Rattle.std.specs.Prelude.{ℕ, ◌==◌, cond, List, [], ◌∷◌}
use Rattle.morton_order.specs.declared.space.Loc.{Loc}
use Rattle.morton_order.specs.Space.{parent}
use Rattle.block_tree.specs.Nodes.{with_node}

-- the parent of a location among the nodes, where it has one
abbrev pub with_parent : ℕ → List Loc → Loc → List Loc
with_parent dims ls m = cond (m.level == 0) ls (with_node ls (parent dims m))

-- the parents of some locations among the nodes, one after another
abbrev pub with_parents : ℕ → List Loc → List Loc → List Loc
with_parents dims ls [] = ls
with_parents dims ls (m ∷ ms) = with_parents dims (with_parent dims ls m) ms
