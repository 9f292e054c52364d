-- Buffers whose own totals are made zero.
use Rattle.std.specs.Prelude.{ℕ, Bool, cond, List, replicate}
use Rattle.block_layout.specs.declared.layout.Layout.{Layout}
use Rattle.block_layout.specs.Layouts.{interior_len}
use Rattle.field_bufs.specs.declared.buf.FieldBuf.{FieldBuf}
use Rattle.cycle_kernels.specs.Lists.{ghosts_in, with_ghosts}

-- a block's list with zeros of its own, and the ghosts that it had
abbrev pub cleared_cells : Layout → List ℕ → List ℕ
cleared_cells l cells = with_ghosts l (replicate (interior_len l) 0) (ghosts_in l cells)

abbrev pub cleared : Layout → FieldBuf → FieldBuf
cleared l buf = record buf { cells = cleared_cells l buf.cells }

-- what is left of a buffer: all where it is kept, else its ghosts
abbrev pub left_if : Bool → Layout → FieldBuf → FieldBuf
left_if kept l buf = record buf { cells = cond kept buf.cells (cleared_cells l buf.cells) }
