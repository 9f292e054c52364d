-- Buffers with what passes their faces.
use Rattle.field_bufs.specs.declared.buf.FieldBuf.{FieldBuf}
use Rattle.cycle_kernels.specs.Blocks.{CycleMesh}
use Rattle.cycle_kernels.specs.Lists.{ghosts_in, own_totals}
use Rattle.cycle_kernels.specs.Pairs.{FacePairs, fluxes_of}

-- by a buffer's own totals and ghosts
abbrev pub fluxes_in : CycleMesh → FieldBuf → FacePairs
fluxes_in w buf = fluxes_of w buf.block buf.field (own_totals w.layout buf.cells) (ghosts_in w.layout buf.cells)

abbrev pub with_fluxes : CycleMesh → FieldBuf → FieldBuf
with_fluxes w buf = record buf { right = (fluxes_in w buf).right; left = (fluxes_in w buf).left }
