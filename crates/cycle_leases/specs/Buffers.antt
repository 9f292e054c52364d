-- Which buffer of a state a buffer of the code is.
use Rattle.std.specs.Prelude.{◌≡◌, ℕ, ◌+◌, ◌*◌, ◌/◌, cond, nat_le, Some, List, min}
use Rattle.sparse_pool.specs.declared.place.Place.{Place}
use Rattle.mesh_rules.specs.declared.wish.Wish.{Wish}
use Rattle.block_layout.specs.declared.layout.Layout.{Layout}
use Rattle.field_bufs.specs.declared.buf.FieldBuf.{FieldBuf}
use Rattle.field_bufs.specs.Buffers.{HasSizes}
use Rattle.sparse_rounds.specs.Sparse.{Buf, Local}
use Rattle.cycle_kernels.specs.Lists.{ghosts_in, own_totals}
use Rattle.cycle_kernels.specs.Pairs.{FacePairs}
use Rattle.masked_cycles.specs.Cycles.{Cycle}

-- what a list of tasks has on a mesh
abbrev pub LocalOf : Type 0
LocalOf = Local (List ℕ) (List ℕ) FacePairs Wish

-- the place of a buffer
abbrev pub place_of : FieldBuf → Place
place_of buf = record { block = buf.block; field = buf.field }

-- what a buffer shows: the block's own totals, its ghosts, and what passes its faces
abbrev pub shown_by : Layout → FieldBuf → Buf (List ℕ) (List ℕ) FacePairs
shown_by l buf = record {
  cells = own_totals l buf.cells;
  ghosts = ghosts_in l buf.cells;
  pairs = record { right = buf.right; left = buf.left };
}

-- how often the blocks of a list were changed once it has given so many tasks: by the update of each stage, and by the
-- reaction
abbrev pub stamp_after : Cycle → ℕ → ℕ
stamp_after c given = min (given / 6) c.problem.nstages + cond (nat_le (6 * c.problem.nstages + 1) given) 1 0

-- a buffer with lists of the right lengths and a stamp, which shows what a list of tasks has of its field on its block
pub record IsBufferIn (c : Cycle) (local : LocalOf) (stamp : ℕ) (buf : FieldBuf) : Type 0 where
  pub sizes : HasSizes c.layout buf
  pub stamped : buf.stamp ≡ stamp
  pub shows : local.bufs buf.block buf.field ≡ Some (shown_by c.layout buf)
