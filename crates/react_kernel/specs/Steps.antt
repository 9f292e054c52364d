-- One reaction in a cell and its flows. This serves the private contracts of the crate.
use Rattle.std.specs.Prelude.{◌≡◌, ℕ, ◌<◌, List, length, cond, nat_eq, slice_index_or}
use Rattle.package_fields.specs.declared.flow.Flow.{Flow}
use Rattle.package_fields.specs.Flow.{no_flow}
use Rattle.package_fields.specs.Kernel.{with_parts}

-- an amount at one field, and nothing at the others
abbrev pub only_at : ℕ → ℕ → ℕ → ℕ
only_at field amount f = cond (nat_eq f field) amount 0

-- flows in which an amount of one field was used and made of another
pub record Moves (old new : List Flow) (from to amount : ℕ) : Type 0 where
  pub as_many : length new ≡ length old
  pub each : (f : ℕ) → f < length old → slice_index_or new f no_flow ≡ with_parts (slice_index_or old f no_flow) (only_at to amount f) (only_at from amount f)
