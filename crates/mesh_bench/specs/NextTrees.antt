-- For the code: a tree to which a mesh state can go over.
use Rattle.std.specs.Prelude.{◌≡◌}
use Rattle.block_tree.specs.Blocks.{TreeOfBlocks, is_inner_of}
use Rattle.block_tree.specs.Next.{IsNear}

-- a tree over the same roots, near to one
pub record IsNextOf (t next : TreeOfBlocks) : Type 0 where
  pub shape : next.shape ≡ t.shape
  pub near : IsNear t.shape (is_inner_of t) (is_inner_of next)
