use Rattle.block_tree.proofs.Filling.{roots_whole}
use Rattle.block_tree.proofs.grow.list_roots.Goals as goal

pub returns : goal.returns
returns c = roots_whole c.args.shape.now c.in_ok-push_roots.field-0 c.new-list.result.items c.push_roots.new.roots.items c.new-list.ensures.items c.requires c.in_ok-push_roots.ensures.whole
