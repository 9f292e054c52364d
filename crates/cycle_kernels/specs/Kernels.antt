-- The kernels of a cycle on a mesh.
use Rattle.std.specs.Prelude.{◌==◌, ℕ, not, List, replicate, sum}
use Rattle.std.specs.List.{list_all}
use Rattle.mesh_rules.specs.declared.wish.Wish.{Wish}
use Rattle.mesh_rules.specs.Due.{Exchange, flux_letters, ghost_letters, partition_count}
use Rattle.mesh_rules.specs.Fields.{has_fluxes, has_ghosts}
use Rattle.mesh_rules.specs.Mask.{some_above}
use Rattle.block_layout.specs.Layouts.{interior_len, len}
use Rattle.sparse_rounds.specs.Kernels.{Kernels}
use Rattle.cycle_kernels.specs.Blocks.{CycleMesh, block_count, enters_above, may_lack, owner_of}
use Rattle.cycle_kernels.specs.Letters.{ghosts_by, no_part, region_sent, same_letter}
use Rattle.cycle_kernels.specs.Pairs.{FacePairs, corrected_by, fluxes_of, inflow_of, no_pairs, outflow_of, sums_sent, updated_by}
use Rattle.cycle_kernels.specs.Cells.{made_by, reacted_by, used_by, wish_of_block}

-- the cells of a field on a block are the list of its own totals, its ghosts a list of the block with ghosts that has zeros in the
-- place of its own totals, a part of a letter is the list of its numbers
abbrev pub kernels_of : CycleMesh → Kernels Exchange (List ℕ) (List ℕ) FacePairs (List ℕ) Wish
kernels_of w = record {
  lists = partition_count w.settings (block_count w);
  stages = w.settings.nstages;
  owner = owner_of w;
  is_sparse = may_lack w;
  has_ghosts = has_ghosts w.settings;
  has_fluxes = has_fluxes w.settings;
  ghost_due = ghost_letters w.mesh;
  flux_due = flux_letters w.mesh;
  same = same_letter;
  from = λ (x : Exchange). x.from;
  to = λ (x : Exchange). x.to;
  no_cells = replicate (interior_len w.layout) 0;
  no_ghosts = replicate (len w.layout) 0;
  no_pairs = no_pairs w;
  no_part = no_part w;
  region = region_sent w;
  is_blank = list_all (λ total. total == 0);
  calls = some_above w.settings.alloc_threshold;
  flows_in = enters_above 0 w;
  inflow_calls = enters_above w.settings.alloc_threshold w;
  ghosts = ghosts_by w;
  fluxes = fluxes_of w;
  flux_sums = sums_sent w;
  corrected = λ b _ pairs parts. corrected_by w b pairs parts;
  update = λ _ _ own pairs. updated_by w own pairs;
  inflow = λ b _ pairs. inflow_of w b pairs;
  outflow = λ b _ pairs. outflow_of w b pairs;
  react = λ _ totals. reacted_by w totals;
  made = λ _ totals. made_by w totals;
  used = λ _ totals. used_by w totals;
  cells_call = some_above w.settings.alloc_threshold;
  is_idle = λ own. not (some_above w.settings.dealloc_threshold own);
  idle_limit = w.settings.dealloc_count;
  wish = wish_of_block w;
  amount = λ own. sum own;
}
