-- Lists by field, and sums over buffers.
use Rattle.std.specs.Prelude.{◌≡◌, ◌==◌, ℕ, ◌+◌, ◌≤◌, cond, List, length}
use Rattle.std.specs.List.{slice_index_or}
use Rattle.package_fields.specs.declared.flow.Flow.{Flow}
use Rattle.field_bufs.specs.declared.buf.FieldBuf.{FieldBuf}
use Rattle.mesh_rules.specs.Sums.{sum_over}

-- a list that has come to end with more of what stands for nothing
pub record IsPadded {X : Type 0} (none : X) (old new : List X) : Type 0 where
  pub longer : length old ≤ length new
  pub items : (f : ℕ) → slice_index_or new f none ≡ slice_index_or old f none

-- a flow with so much more in and out
abbrev pub with_flow : Flow → ℕ → ℕ → Flow
with_flow flow inflow outflow = record flow { inflow = flow.inflow + inflow; outflow = flow.outflow + outflow }

-- the sum of what the buffers of a field give
abbrev pub sum_of_field : List FieldBuf → (FieldBuf → ℕ) → ℕ → ℕ
sum_of_field bufs each f = sum_over bufs (λ buf. cond (f == buf.field) (each buf) 0)
