-- A tree with a tag of each leaf, and the tree that follows.
use Rattle.std.specs.Prelude.{◌≡◌, ◌<◌, Bool, List, Option, Some, length}
use Rattle.morton_order.specs.declared.space.Loc.{Loc}
use Rattle.block_tree.specs.declared.tags.Tag.{Tag}
use Rattle.block_tree.specs.declared.tags.Tag.TheVariants.{Refine}
use Rattle.block_tree.specs.Blocks.{TreeOfBlocks, is_inner_of, leaves}
use Rattle.block_tree.specs.Next.{next_inner, tag_at}

-- the tag of the leaf at a location, none where no leaf is
abbrev pub tag_of : TreeOfBlocks → List Tag → Loc → Option Tag
tag_of t tags = tag_at (leaves t) tags

-- each leaf has a tag, and none of level 10 is to be refined
pub record AreTags (t : TreeOfBlocks) (tags : List Tag) : Type 0 where
  pub one_each : length tags ≡ length (leaves t)
  pub room : (l : Loc) → tag_of t tags l ≡ Some Refine → l.level < 10

-- the inner nodes of the next tree
abbrev pub next_of : TreeOfBlocks → List Tag → Loc → Bool
next_of t tags = next_inner 9 t.shape (is_inner_of t) (tag_of t tags)
