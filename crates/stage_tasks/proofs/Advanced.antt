-- The totals after an update are those of the kernels of the mesh.
use Rattle.std.proofs.Common.{◌≡◌, ℕ, Bool, cond, List, length, sum, ap, sym, ◌∙◌}
use Rattle.block_layout.specs.Layouts.{interior_len, len}
use Rattle.field_bufs.specs.declared.buf.FieldBuf.{FieldBuf}
use Rattle.transport_kernel.specs.Update.{GhostsStay, HasPassed, listed}
use Rattle.cycle_kernels.specs.Blocks.{CycleMesh}
use Rattle.cycle_kernels.specs.Lists.{ghosts_in, own_totals, with_ghosts}
use Rattle.cycle_kernels.specs.Pairs.{updated_at}
use Rattle.cycle_kernels.proofs.Tables.{table_long}
use Rattle.cycle_kernel_links.proofs.Fluxes.{updates_are_those}
use Rattle.cycle_kernel_links.proofs.Lists.{own_again, whole_again}
use Rattle.lent_bufs.specs.Buffers.{pairs_in}
use Rattle.stage_tasks.specs.Updates.{advanced, next_totals}

pub advanced_is : (w : CycleMesh) (buf : FieldBuf) (new : List ℕ) → length new ≡ len w.layout →
    HasPassed w.layout (listed w.layout buf.right) (listed w.layout buf.left) buf.cells new → GhostsStay w.layout buf.cells new → new ≡ (advanced w buf).cells
advanced_is w buf new long passed stays =
    let is = updates_are_those w buf.cells new (pairs_in buf) passed stays in
    sym (whole_again w.layout new long)
    ∙ ap (λ (v : List ℕ). with_ghosts w.layout v (ghosts_in w.layout new)) is.own
    ∙ ap (λ (v : List ℕ). with_ghosts w.layout (next_totals w buf) v) is.ghosts

-- the next totals stand in it
pub own_next : (w : CycleMesh) (buf : FieldBuf) → own_totals w.layout (advanced w buf).cells ≡ next_totals w buf
own_next w buf = own_again w.layout (next_totals w buf) (ghosts_in w.layout buf.cells) (table_long (interior_len w.layout) (updated_at w (own_totals w.layout buf.cells) (pairs_in buf)))

pub dropped_next : (w : CycleMesh) (kept : Bool) (buf : FieldBuf) → cond kept 0 (sum (own_totals w.layout (advanced w buf).cells)) ≡ cond kept 0 (sum (next_totals w buf))
dropped_next w kept buf = ap (λ (v : List ℕ). cond kept 0 (sum v)) (own_next w buf)
