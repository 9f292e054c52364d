-- How a slot shows one place of a list's state, and what each event makes of it: what the sparse machine over a row of blocks does there.
use Rattle.std.specs.Prelude.{◌≡◌, ◌==◌, ℕ, zero, suc, ◌+◌, ◌*◌, ◌%◌, ◌^◌, ◌<◌, Bool, true, false, cond, ◌&&◌, not, Option, Some, None, is_some, List}
use Rattle.std.specs.Option.{option_map}
use Rattle.sparse_rounds.specs.Masked.{is_called}
use Rattle.sparse_rounds.specs.Sparse.{Buf, Local, arrived, checked, filled, fluxed, free, has_flag, lease_of, lent_cells, reacted, updated}
use Rattle.sparse_rounds.specs.Row.{Ends, Passing, RowOf, Side, ends_of, moves, row_kernels, turned}
use Rattle.row_machine.specs.declared.slot.Buffer.{Buffer}
use Rattle.row_machine.specs.declared.slot.Slot.{Slot}
use Rattle.row_machine.specs.Rules.{lent_of}

abbrev pub buf_of : Buffer → Buf ℕ Ends Passing
buf_of u = record {
  cells = u.cell;
  ghosts = record { low = u.low; high = u.high };
  pairs = record { low_right = u.low_right; low_left = u.low_left; high_right = u.high_right; high_left = u.high_left };
}

abbrev pub RowLocal : Type 0
RowLocal = Local ℕ Ends Passing Bool

-- a slot shows a block and field of what a list holds
pub record Shows (l : RowLocal) (b f : ℕ) (s : Slot) : Type 0 where
  pub buffer : l.bufs b f ≡ option_map buf_of s.buffer
  pub leased : l.leased b f ≡ s.leased
  pub kept : l.kept b f ≡ s.kept
  pub idle : l.idle b f ≡ s.idle
  pub dropped : l.dropped b f ≡ s.dropped

abbrev pub TakesAs : Bool → Slot → Slot → Type 0
TakesAs flag old new = (w : RowOf) (l : RowLocal) (b f g : ℕ) → has_flag (row_kernels w) g f ≡ flag → Shows l b f old → Shows (lease_of (row_kernels w) g l) b f new

abbrev pub ReleasesAs : Slot → Slot → Type 0
ReleasesAs old new = (l : RowLocal) (b f : ℕ) → Shows l b f old → Shows (free l) b f new

abbrev pub ComesAs : ℕ → Slot → Slot → Type 0
ComesAs part old new = (w : RowOf) (l : RowLocal) (b f r : ℕ) (high : Bool) (content : ℕ → ℕ) → (r % 2 == 0) ≡ true → moves f ≡ true → content f ≡ part → Shows l b f old →
    Shows (arrived (row_kernels w) r (record { block = b; high = high }) content l) b f new

abbrev pub FillsAs : ℕ → ℕ → Bool → Bool → Slot → Slot → Type 0
FillsAs low high flows calls old new = (w : RowOf) (l : RowLocal) (b f : ℕ) (content : Side → ℕ → ℕ) → moves f ≡ true → ends_of w b f (λ x. content x f) ≡ record { low = low; high = high } →
    (b == 0 && not (w.inflow f == 0)) ≡ flows → is_called (row_kernels w) (λ x. content x f) b f ≡ calls → Shows l b f old → Shows (filled (row_kernels w) content l) b f new

abbrev pub FluxesAs : Slot → Slot → Type 0
FluxesAs old new = (w : RowOf) (l : RowLocal) (b f : ℕ) → Shows l b f old → Shows (fluxed (row_kernels w) l) b f new

-- the numbers of a slot are small enough to be added
pub record IsSmall (s : Slot) : Type 0 where
  pub dropped : s.dropped < 2 ^ 62
  pub idle : s.idle < 2 ^ 62
  pub cell : (lent_of s.buffer).cell < 2 ^ 60
  pub paid : (lent_of s.buffer).low_left + (lent_of s.buffer).high_right < 2 ^ 60
  pub gained : (lent_of s.buffer).low_right + (lent_of s.buffer).high_left < 2 ^ 60

abbrev pub UpdatesAs : Slot → Slot → Type 0
UpdatesAs old new = (w : RowOf) (l : RowLocal) (b f : ℕ) → Shows l b f old → Shows (updated (row_kernels w) l) b f new

abbrev pub ReactsAs : ℕ → ℕ → Slot → Slot → Type 0
ReactsAs above result old new = (w : RowOf) (l : RowLocal) (b f : ℕ) → w.above ≡ above → moves f ≡ true → turned (lent_cells (row_kernels w) l b) f ≡ result → Shows l b f old → Shows (reacted (row_kernels w) l) b f new

abbrev pub ChecksAs : ℕ → ℕ → Slot → Slot → Type 0
ChecksAs idle_at limit old new = (w : RowOf) (l : RowLocal) (b f : ℕ) → w.idle_at ≡ idle_at → w.idle_limit ≡ limit → moves f ≡ true → Shows l b f old → Shows (checked (row_kernels w) l) b f new

abbrev pub TurnsInto : ℕ → ℕ → ℕ → ℕ → Type 0
TurnsInto first second to_first to_second = (v : ℕ → ℕ) → v 0 ≡ first → v 1 ≡ second → (turned v 0 ≡ to_first) × (turned v 1 ≡ to_second)
