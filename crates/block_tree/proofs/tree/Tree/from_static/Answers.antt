use Rattle.std.proofs.Common.{◌≡◌, ◌<◌, None, length}
use Rattle.block_tree.specs.Leaves.{roots}
use Rattle.block_tree.specs.Least.{opening}
use Rattle.block_tree.proofs.Wanted.{too_many_roots}
use Rattle.block_tree.proofs.Filling.{on_none}
use Rattle.block_tree.proofs.tree.Tree.from_static.Goals as goal

pub returns-in-None-clause-fault : goal.returns-in-None-clause-fault
returns-in-None-clause-fault c =
    let is : c.in_ok-roots.field-0 ≡ None = cc in
    too_many_roots c.args.shape (opening 9 c.args.shape c.args.cells c.args.boxes.now) c.requires.shape (on_none (65536 < length (roots c.args.shape)) c.in_ok-roots.field-0 is c.in_ok-roots.ensures.none)
