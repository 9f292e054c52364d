-- What was counted over all leaves is what is due.
use Rattle.std.proofs.Common.{◌≡◌, ℕ, ◌+◌, ◌-◌, ◌/◌, ◌<◌, inl, inr, List, [], length, arith, ap, sym, ◌∙◌}
use Rattle.std.specs.Prelude.{slice_index}
use Rattle.std.specs.List.{slice_index_or}
use Rattle.std.proofs.lemmas.Bool.{cases_lt}
use Rattle.std.proofs.lemmas.List.{get_or_past}
use Rattle.std.proofs.lemmas.List.FromFn.{get_or-map-range_with_len, length-map-range_with_len}
use Rattle.morton_order.specs.declared.space.Loc.{Loc}
use Rattle.block_tree.specs.Blocks.{TreeOfBlocks, leaves}
use Rattle.mesh_rules.specs.Sums.{table}
use Rattle.mesh_rules.specs.Due.{coarser_in}
use Rattle.mesh_rules.specs.Mesh.{Mesh}
use Rattle.mesh_rules.specs.Regions.{leaves_in}
use Rattle.cycle_tables.specs.declared.list_state.Due.{Due}
use Rattle.due_counts.specs.declared.counts.Counts.{Counts}
use Rattle.due_counts.specs.declared.letters.DueLetters.{DueLetters}
use Rattle.due_counts.specs.Counts.{AddsAll, AreBounded, AreCounts, CanTake}
use Rattle.due_counts.specs.DueLetters.{AreDue, IsOnTree, due_at}
use Rattle.due_counts.specs.Sides.{all_lists}
use Rattle.due_counts.proofs.Totals.{count_is, length_is}

-- nothing is counted of any list at first
pub none_bounded : (c : Counts) → AreCounts [] c → AreBounded c
none_bounded c are i = elim (cases_lt i (length c.each.items)) [
  | inl less ↦ omega (arith, are.each i less)
  | inr past ↦ omega (arith, get_or_past c.each.items i 0 past)
]

pub can_begin : (lists : ℕ) (c : Counts) → AreCounts [] c → length c.each.items ≡ lists → CanTake lists 3145728 c
can_begin lists c are long = record { long = long; bounded = none_bounded c are; few = omega (arith, are.all) }

pub due_is : (t : TreeOfBlocks) (size : ℕ) (m : Mesh) (g0 g f0 f : Counts) (d : DueLetters) → IsOnTree t m → AreCounts [] g0 → AreCounts [] f0
    → length g0.each.items ≡ (length (leaves t) + size - 1) / size → length f0.each.items ≡ (length (leaves t) + size - 1) / size
    → AddsAll (all_lists t size leaves_in) g0 g → AddsAll (all_lists t size coarser_in) f0 f
    → d.lists.items ≡ table (length g.each.items) (λ i. record { ghosts = slice_index g.each.items i; fluxes = slice_index f.each.items i })
    → d.ghosts ≡ g.all → d.fluxes ≡ f.all → AreDue size m d
due_is t size m g0 g f0 f d on gs fs glong flong gadds fadds lists all_g all_f = record {
  lists_are = long ∙ gadds.long ∙ glong ∙ ap (λ (ls : List Loc). (length ls + size - 1) / size) (sym on.leaves_are);
  ghosts_due = λ list less. ap (λ (x : Due). x.ghosts) (at list less) ∙ ghost_counts.each list (omega (arith, less, long))
      ∙ count_is t m size leaves_in on list;
  fluxes_due = λ list less. ap (λ (x : Due). x.fluxes) (at list less)
      ∙ flux_counts.each list (omega (arith, less, long, gadds.long, glong, fadds.long, flong))
      ∙ count_is t m size coarser_in on list;
  all_ghosts = all_g ∙ ghost_counts.all ∙ length_is t m size leaves_in on;
  all_fluxes = all_f ∙ flux_counts.all ∙ length_is t m size coarser_in on;
}
  where
    each : ℕ → Due
    each i = record { ghosts = slice_index g.each.items i; fluxes = slice_index f.each.items i }

    long : length d.lists.items ≡ length g.each.items
    long = ap length lists ∙ length-map-range_with_len each 0 (length g.each.items)

    at : (list : ℕ) → list < length d.lists.items → due_at d list ≡ each list
    at list less = ap (λ (v : List Due). slice_index_or v list (record { ghosts = 0; fluxes = 0 })) lists
        ∙ get_or-map-range_with_len each 0 (length g.each.items) list list (record { ghosts = 0; fluxes = 0 }) (omega (arith, less, long)) (omega arith)

    ghost_counts : AreCounts (all_lists t size leaves_in) g
    ghost_counts = gadds.counted [] gs

    flux_counts : AreCounts (all_lists t size coarser_in) f
    flux_counts = fadds.counted [] fs
