-- What stands in a store once a task was given.
use Rattle.std.specs.Prelude.{◌≡◌, ◌≢◌, ℕ, suc, zero, ◌+◌, ◌/◌, ◌-◌, ◌<◌, ◌≤◌, ◌^◌, Bool, false, true, cond, ◌&&◌, None, Some, IsSome, is_some, is_none, List, [], ◌∷◌, length, unwrap_or}
use Rattle.std.specs.Option.{option_map}
use Rattle.sparse_pool.specs.declared.place.Place.{Place}
use Rattle.field_bufs.specs.declared.buf.FieldBuf.{FieldBuf}
use Rattle.cell_block.specs.State.{Entry, Fits, IsIn, Stored, buffer_in, buffer_set, entry_in, epoch_at, first_of, idle_set, leaves_in, place_of, spare_at, stamps_raised, with_entry}
use Rattle.cycle_stores.specs.declared.left.Left.{Left}
use Rattle.cycle_stores.specs.Stores.{Grid}

-- whether something stands at a place, whether it is lent, and its idle count
abbrev pub is_there : Grid → Place → Bool
is_there grid at = is_some (entry_in grid at)

abbrev pub is_out : Grid → Place → Bool
is_out grid at = is_there grid at && is_none (buffer_in grid at)

abbrev pub idle_in : Grid → Place → ℕ
idle_in grid at = unwrap_or (option_map (λ (e : Entry). e.idle) (entry_in grid at)) 0

-- the stamps of so many blocks from one on rose
abbrev pub raised_in : Grid → ℕ → ℕ → Grid
raised_in grid first zero = grid
raised_in grid first (suc n) = stamps_raised (raised_in grid first n) (first + n)

abbrev pub AreLowStamps : Grid → Type 0
AreLowStamps grid = (at : Place) (buf : FieldBuf) → buffer_in grid at ≡ Some buf → buf.stamp < 2 ^ 32 - 1

-- the idle counts of the places of some buffers were set, as far as there are counts
abbrev pub counted_in : Grid → List FieldBuf → List ℕ → Grid
counted_in grid bufs [] = grid
counted_in grid [] (n ∷ counts) = grid
counted_in grid (buf ∷ rest) (n ∷ counts) = counted_in (idle_set grid (place_of buf) n) rest counts

abbrev pub CanCount : Grid → List FieldBuf → List ℕ → Type 0
CanCount grid bufs [] = Unit {0}
CanCount grid [] (n ∷ counts) = Unit {0}
CanCount grid (buf ∷ rest) (n ∷ counts) =
    (is_there grid (place_of buf) ≡ true) × CanCount (idle_set grid (place_of buf) n) rest counts

-- some buffers came back to their places
abbrev pub back_in : Grid → List FieldBuf → Grid
back_in grid [] = grid
back_in grid (buf ∷ rest) = back_in (buffer_set grid (place_of buf) (Some buf)) rest

abbrev pub CanComeBack : Stored → Grid → List FieldBuf → Type 0
CanComeBack s grid [] = Unit {0}
CanComeBack s grid (buf ∷ rest) = (is_out grid (place_of buf) ≡ true) × Fits s buf
    × CanComeBack s (buffer_set grid (place_of buf) (Some buf)) rest

-- a buffer came to its place, where there was one or not
abbrev pub filled_in : Grid → FieldBuf → Grid
filled_in grid buf =
    with_entry grid (place_of buf) (Some (record { idle = idle_in grid (place_of buf); buf = Some buf }))

abbrev pub made_in : Grid → List FieldBuf → Grid
made_in grid [] = grid
made_in grid (buf ∷ rest) = made_in (filled_in grid buf) rest

-- how many of them came to a place where nothing stood
abbrev pub new_in : Grid → List FieldBuf → ℕ
new_in grid [] = 0
new_in grid (buf ∷ rest) = cond (is_there grid (place_of buf)) 0 1 + new_in (filled_in grid buf) rest

-- each is of the partition, and its place is not lent when its turn comes
abbrev pub CanMake : Stored → ℕ → Grid → List FieldBuf → Type 0
CanMake s list grid [] = Unit {0}
CanMake s list grid (buf ∷ rest) = IsIn s (place_of buf) × (buf.block / s.size ≡ list) × Fits s buf
    × (is_out grid (place_of buf) ≡ false) × CanMake s list (filled_in grid buf) rest

-- some places were freed
abbrev pub freed_in : Grid → List Place → Grid
freed_in grid [] = grid
freed_in grid (at ∷ rest) = freed_in (with_entry grid at None) rest

abbrev pub CanFree : Stored → ℕ → Grid → List Place → Type 0
CanFree s list grid [] = Unit {0}
CanFree s list grid (at ∷ rest) = IsSome (buffer_in grid at) × (at.block / s.size ≡ list)
    × CanFree s list (with_entry grid at None) rest

-- the same mesh, with these things at its places; so many places of one partition came or went
pub record IsChangedTo (list changes : ℕ) (old new : Stored) (grid : Grid) : Type 0 where
  pub mesh : new ≡ record old { places = grid; epochs = new.epochs; spares = new.spares }
  pub epoch : epoch_at new list ≡ epoch_at old list + changes
  pub others : (other : ℕ) → other ≢ list → epoch_at new other ≡ epoch_at old other

-- where a task changes its blocks, the stamps of the buffers that it was not lent rise
abbrev pub changed_in : Stored → Left → Grid
changed_in s left = cond left.changes (raised_in s.places (first_of s left.list) (leaves_in s left.list)) s.places

-- then the idle counts are set, and the buffers that were lent come back
abbrev pub counted_by : Stored → Left → Grid
counted_by s left = counted_in (changed_in s left) left.bufs left.counts

abbrev pub back_by : Stored → Left → Grid
back_by s left = back_in (counted_by s left) left.bufs

-- last those come that were made, and places are freed
abbrev pub made_by : Stored → Left → Grid
made_by s left = made_in (back_by s left) left.made

abbrev pub given_by : Stored → Left → List Place → Grid
given_by s left freed = freed_in (made_by s left) freed

-- how many places come or go
abbrev pub changes_by : Stored → Left → List Place → ℕ
changes_by s left freed = new_in (back_by s left) left.made + length freed

-- what a task leaves fits the store, and there is room for it
pub record CanGive (s : Stored) (left : Left) (freed : List Place) : Type 0 where
  pub stamps : left.changes ≡ true → AreLowStamps s.places
  pub counts : CanCount (changed_in s left) left.bufs left.counts
  pub bufs : CanComeBack s (counted_by s left) left.bufs
  pub made : CanMake s left.list (back_by s left) left.made
  pub frees : CanFree s left.list (made_by s left) freed
  pub room : length left.made ≤ spare_at s left.list
  pub epoch : epoch_at s left.list + length left.made + length freed < 2 ^ 64
