-- The mesh and the mask of a mesh state have what its places have.
use Rattle.std.proofs.Common.{◌≡◌, ℕ, ◌<◌, Option, None, is_some, List, [], length, arith, ap, sym, ◌∙◌}
use Rattle.std.specs.List.{slice_index_or}
use Rattle.alloc_epochs.specs.Shelf.{place_on}
use Rattle.mesh_rules.specs.Mask.{Mask, Slot, absent, slot_at}
use Rattle.mesh_rules.specs.Sums.{table}
use Rattle.cell_block.specs.State.{Entry, Stored, leaf_count}
use Rattle.cell_block.specs.Rules.{interior_at, mask_in, mesh_in, slot_in, state_in}
use Rattle.cell_block.specs.Laws.{CountsAreKept, SlotsArePlaces, TotalsAreInteriors}
use Rattle.cell_block.proofs.Tables.{count_same, table_at, table_by, table_length}
use Rattle.block_layout.specs.declared.layout.Layout.{Layout}
use Rattle.block_tree.specs.Blocks.{leaves}
use Rattle.morton_order.specs.declared.space.Loc.{Loc}
use Rattle.morton_order.specs.declared.space.Shape.{Shape}
use Rattle.mesh_rules.specs.Cycle.{State}
use Rattle.mesh_rules.specs.Mesh.{totals_on}

pub totals_are_interiors : TotalsAreInteriors
totals_are_interiors l s leaf f within field =
    ap (λ (v : List (List ℕ)). slice_index_or v f []) (table_at (leaf_count s) (λ n. table s.fields (λ k. interior_at l s (place_on n k))) leaf [] within)
    ∙ table_at s.fields (λ k. interior_at l s (place_on leaf k)) f [] field

pub slots_are_places : SlotsArePlaces
slots_are_places s leaf f within field =
    ap (λ (v : List Slot). slice_index_or v f absent) (table_at (leaf_count s) (λ n. table s.fields (slot_in s n)) leaf [] within)
    ∙ table_at s.fields (slot_in s leaf) f absent field

pub counts_are_kept : CountsAreKept
counts_are_kept s f stored field =
    count_same (λ (row : List (Option Entry)). is_some (slice_index_or row f None)) (λ (slots : List Slot). (slice_index_or slots f absent).kept) s.places (mask_in s) [] []
    (stored.blocks ∙ sym (table_length (leaf_count s) (λ n. table s.fields (slot_in s n))))
    (λ leaf lt. sym (ap (λ (slot : Slot). slot.kept) (slots_are_places s leaf f (omega (arith, stored.blocks)) field)))

-- a state of the rules that has, place by place, what a mesh state has
pub record AgreesAt (l : Layout) (s : Stored) (c : State) : Type 0 where
  pub shape : c.mesh.shape ≡ s.tree.shape
  pub cells : c.mesh.cells ≡ s.cells
  pub inner : c.mesh.inner ≡ s.tree.inner
  pub leaves_are : c.mesh.leaves ≡ leaves s.tree
  pub total_rows : length c.mesh.totals ≡ leaf_count s
  pub total_fields : (leaf : ℕ) → leaf < leaf_count s → length (slice_index_or c.mesh.totals leaf []) ≡ s.fields
  pub totals : (leaf f : ℕ) → leaf < leaf_count s → f < s.fields → totals_on c.mesh leaf f ≡ interior_at l s (place_on leaf f)
  pub slot_rows : length c.mask ≡ leaf_count s
  pub slot_fields : (leaf : ℕ) → leaf < leaf_count s → length (slice_index_or c.mask leaf []) ≡ s.fields
  pub slots : (leaf f : ℕ) → leaf < leaf_count s → f < s.fields → slot_at c.mask leaf f ≡ slot_in s leaf f
  pub counters : c.counters ≡ s.counters

-- is the state that it stands for
pub state_is : (l : Layout) (s : Stored) (c : State) → AgreesAt l s c → state_in l s ≡ c
state_is l s c agrees =
    let totals_row = λ (leaf : ℕ). table s.fields (λ f. interior_at l s (place_on leaf f)) in
    let slots_row = λ (leaf : ℕ). table s.fields (slot_in s leaf) in
    let totals : c.mesh.totals ≡ table (leaf_count s) totals_row = table_by c.mesh.totals (leaf_count s) totals_row [] agrees.total_rows
    (λ leaf lt. table_by (slice_index_or c.mesh.totals leaf []) s.fields (λ f. interior_at l s (place_on leaf f)) [] (agrees.total_fields leaf lt) (λ f less. agrees.totals leaf f lt less)) in
    let slots : c.mask ≡ table (leaf_count s) slots_row = table_by c.mask (leaf_count s) slots_row [] agrees.slot_rows
    (λ leaf lt. table_by (slice_index_or c.mask leaf []) s.fields (slot_in s leaf) absent (agrees.slot_fields leaf lt) (λ f less. agrees.slots leaf f lt less)) in
    sym (
    ap (λ (v : Shape). record c { mesh = record c.mesh { shape = v } }) agrees.shape
    ∙ ap (λ (v : List ℕ). record c { mesh = record c.mesh { shape = s.tree.shape; cells = v } }) agrees.cells
    ∙ ap (λ (v : List Loc). record c { mesh = record c.mesh { shape = s.tree.shape; cells = s.cells; inner = v } }) agrees.inner
    ∙ ap (λ (v : List Loc). record c { mesh = record c.mesh { shape = s.tree.shape; cells = s.cells; inner = s.tree.inner; leaves = v } }) agrees.leaves_are
    ∙ ap (λ (v : List (List (List ℕ))). record c { mesh = record (mesh_in l s) { totals = v } }) totals
    ∙ ap (λ (v : Mask). record c { mesh = mesh_in l s; mask = v }) slots
    ∙ ap (λ (v : List ℕ). record c { mesh = mesh_in l s; mask = mask_in s; counters = v }) agrees.counters)
