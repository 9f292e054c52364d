use Rattle.std.proofs.Common.{◌∙◌}
use Rattle.block_tree.specs.Blocks.{leaves}
use Rattle.tree_change.proofs.Tags.{tag_found, tag_missing}
use Rattle.tree_change.proofs.wanted.tag.Goals as goal

pub returns-in-Some : goal.returns-in-Some
returns-in-Some c = c.tag_with.ensures ∙ tag_found (leaves c.args.tree.now) c.args.tags.now c.args.at.now c.in-Some.i c.requires c.in-Some.ensures

pub returns-in-None : goal.returns-in-None
returns-in-None c = tag_missing (leaves c.args.tree.now) c.args.tags.now c.args.at.now c.requires c.in-None.ensures
