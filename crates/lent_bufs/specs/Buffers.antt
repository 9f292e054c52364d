-- Buffers that a task is lent.
use Rattle.std.specs.Prelude.{◌==◌, ℕ, ◌<◌, List, filter, length}
use Rattle.sparse_pool.specs.declared.place.Place.{Place}
use Rattle.problem_set.specs.declared.problem.Problem.{Problem}
use Rattle.block_tree.specs.Blocks.{TreeOfBlocks, leaves}
use Rattle.block_layout.specs.declared.layout.Layout.{Layout}
use Rattle.field_bufs.specs.declared.buf.FieldBuf.{FieldBuf}
use Rattle.field_bufs.specs.Buffers.{HasSizes}
use Rattle.cycle_kernels.specs.Pairs.{FacePairs}

-- a buffer of a leaf and a field
pub record IsBufferOn (problem : Problem) (tree : TreeOfBlocks) (layout : Layout) (buf : FieldBuf) : Type 0 where
  pub block : buf.block < length (leaves tree)
  pub field : buf.field < length problem.moves
  pub sizes : HasSizes layout buf

-- the place of a buffer
abbrev pub place_of : FieldBuf → Place
place_of buf = record { block = buf.block; field = buf.field }

-- what passes the faces in a buffer
abbrev pub pairs_in : FieldBuf → FacePairs
pairs_in buf = record { right = buf.right; left = buf.left }

-- the buffers of a block
abbrev pub bufs_on : List FieldBuf → ℕ → List FieldBuf
bufs_on bufs b = filter (λ buf. buf.block == b) bufs
