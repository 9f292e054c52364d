use Rattle.std.proofs.Common.{◌≡◌, take}
use Rattle.std.specs.Prelude.{count_by}
use Rattle.mesh_rules.specs.Texts.{is_zero}
use Rattle.mesh_texts.specs.Sizes.{leaf_lists}
use Rattle.mesh_texts.proofs.block.count_zeros.Given as goal

abbrev pub invariant-loop-list : goal.invariant-loop-list
invariant-loop-list l = l.count ≡ count_by is_zero (leaf_lists (take l.list-index l.lists) l.leaf)
