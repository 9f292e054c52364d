-- The ghosts that a part gives.
use Rattle.std.specs.Prelude.{ℕ, Bool, List}
use Rattle.block_layout.specs.declared.layout.Layout.{Layout}
use Rattle.block_layout.specs.Regions.{Region, beside_part, ghosts}
use Rattle.restrict_prolong.specs.Refined.{at_index, factors, share_in}
use Rattle.block_regions.specs.Written.{HasRegion, StaysOffRegion}
use Rattle.ghost_buffers.specs.declared.part.How.{How}
use Rattle.ghost_buffers.specs.declared.part.How.TheVariants.{Same, Finer, Coarser}
use Rattle.ghost_buffers.specs.Parts.{part_extents}

-- the ghosts of the receiver that a part gives: both layers next to the side, over the half of it that a finer sender covers
abbrev pub received : How → Layout → ℕ → Bool → ℕ → Region
received Same l axis high half = ghosts l axis high
received Finer l axis high half = beside_part l axis half (ghosts l axis high)
received Coarser l axis high half = ghosts l axis high

-- the ghost at an index of these: the part's cell there, or its share of the coarser cell that it lies in
abbrev pub ghost_cell : How → Layout → ℕ → List ℕ → List ℕ → ℕ
ghost_cell Same l axis part i = at_index (part_extents Same l axis) part i
ghost_cell Finer l axis part i = at_index (part_extents Finer l axis) part i
ghost_cell Coarser l axis part i = share_in (factors l.dims) (at_index (part_extents Coarser l axis) part) i

-- the ghosts next to a side have what a part gives, and all other cells are as they were
pub record IsUnfilled (how : How) (l : Layout) (axis : ℕ) (high : Bool) (half : ℕ) (part old new : List ℕ) : Type 0 where
  pub given : HasRegion l (received how l axis high half) (ghost_cell how l axis part) new
  pub others : StaysOffRegion l (received how l axis high half) old new
