-- The two parts of a block's list.
use Rattle.std.specs.Prelude.{◌≡◌, ℕ, true, List, length, slice_index}
use Rattle.block_layout.specs.declared.layout.Layout.{Layout}
use Rattle.block_layout.specs.Layouts.{interior_len, len}
use Rattle.cycle_kernels.specs.Lists.{ghosts_in, is_own, own_totals, with_ghosts}

-- a list of ghosts has zeros in the place of the block's own totals
pub record AreGhosts (l : Layout) (ghosts : List ℕ) : Type 0 where
  pub long : length ghosts ≡ len l
  pub empty : (place : ℕ) → is_own l place ≡ true → slice_index ghosts place ≡ 0

-- a list of a block is its own totals with its ghosts, and comes apart into them
pub record ListsComeApart : Type 0 where
  pub whole : (l : Layout) (cells : List ℕ) → length cells ≡ len l →
      with_ghosts l (own_totals l cells) (ghosts_in l cells) ≡ cells
  pub own : (l : Layout) (own ghosts : List ℕ) → length own ≡ interior_len l →
      own_totals l (with_ghosts l own ghosts) ≡ own
  pub ghosts : (l : Layout) (own ghosts : List ℕ) → AreGhosts l ghosts → ghosts_in l (with_ghosts l own ghosts) ≡ ghosts
