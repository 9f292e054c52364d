-- What blocks hold of fields.
use Rattle.std.specs.Prelude.{◌≡◌, ℕ, List, [], ◌∷◌, cond, nat_eq, length, replicate, slice_index}
use Rattle.block_layout.specs.declared.layout.Layout.{Layout}
use Rattle.block_layout.specs.Faces.{face_count}
use Rattle.block_layout.specs.Layouts.{len}
use Rattle.field_bufs.specs.declared.buf.FieldBuf.{FieldBuf}

-- a buffer of so many cells and faces with zeros
abbrev pub zeros : ℕ → ℕ → ℕ → ℕ → ℕ → FieldBuf
zeros cells faces block field stamp = record {
  block = block;
  field = field;
  stamp = stamp;
  cells = replicate cells 0;
  right = replicate faces 0;
  left = replicate faces 0;
}

-- a buffer has a total for each cell of a block with its ghosts, and a number in each direction for each face
pub record HasSizes (l : Layout) (buf : FieldBuf) : Type 0 where
  pub cells : length buf.cells ≡ len l
  pub right : length buf.right ≡ face_count l
  pub left : length buf.left ≡ face_count l

-- the totals of a field in some buffers of a block, none where no buffer is the field's
abbrev pub cells_of : List FieldBuf → ℕ → List ℕ
cells_of [] f = []
cells_of (buf ∷ bufs) f = cond (nat_eq buf.field f) buf.cells (cells_of bufs f)

-- the total of a field at a place of the cells: a field without a buffer is zero everywhere
abbrev pub total_at : List FieldBuf → ℕ → ℕ → ℕ
total_at bufs f place = slice_index (cells_of bufs f) place
