use Rattle.std.proofs.Common.{◌≡◌, drop}
use Rattle.std.specs.List.{list_any}
use Rattle.block_tree.specs.Worklist.{is_asked}
use Rattle.block_tree.proofs.opening.is_wanted.Given as goal

abbrev pub invariant-loop-i : goal.invariant-loop-i
invariant-loop-i l = list_any (is_asked l.shape l.cells l.at) (drop l.i l.boxes) ≡ list_any (is_asked l.shape l.cells l.at) l.boxes
