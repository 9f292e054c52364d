-- An opening is the state that its mesh state stands for.
use Rattle.std.proofs.Common.{◌≡◌, ℕ, ◌<◌, List, [], length, map, refl, ap, sym, subst, ◌∙◌}
use Rattle.std.specs.List.{slice_index_or}
use Rattle.std.proofs.lemmas.List.{get_or-map, length-map}
use Rattle.block_tree.specs.Blocks.{TreeOfBlocks}
use Rattle.block_layout.specs.declared.layout.Layout.{Layout}
use Rattle.block_layout.specs.Indices.{count_of}
use Rattle.mesh_rules.specs.Mask.{Slot, absent}
use Rattle.cell_block.specs.State.{HasLayout, Stored, leaf_count}
use Rattle.cell_block.specs.Rules.{state_in}
use Rattle.cell_block.proofs.Meshes.{state_is}
use Rattle.cell_block.proofs.Tables.{table_at, table_length}
use Rattle.cycle_openings.specs.declared.leaf_fields.LeafField.{LeafField}
use Rattle.cycle_openings.specs.LeafFields.{AreOnLeaves, found, slot_of, totals_of}
use Rattle.cycle_openings.specs.Opened.{opened, slots_by, totals_by}

-- a row of what the leaves have
row_at : {X : Type 0} (each : List LeafField → List X) (copies : List (List LeafField)) (leaf : ℕ) → leaf < length copies
    → slice_index_or (map each copies) leaf [] ≡ each (slice_index_or copies leaf [])
row_at each copies leaf less = get_or-map each copies leaf [] [] less

-- the copies of all leaves, with the tree, the cells and the counters, are the state
pub opened_is : (l : Layout) (s : Stored) (copies : List (List LeafField)) → HasLayout s l
    → AreOnLeaves s (leaf_count s) copies → opened s.tree s.cells s.fields copies s.counters ≡ state_in l s
opened_is l s copies has are = sym (state_is l s (opened s.tree s.cells s.fields copies s.counters) (record {
  shape = refl;
  cells = refl;
  inner = refl;
  leaves_are = refl;
  total_rows = length-map copies totals ∙ are.long;
  total_fields = λ leaf less. ap length (row_at totals copies leaf (within leaf less))
      ∙ table_length s.fields (λ f. totals_of (count_of s.cells) (found (slice_index_or copies leaf []) f));
  totals = λ leaf f less field.
      ap (λ (row : List (List ℕ)). slice_index_or row f []) (row_at totals copies leaf (within leaf less))
      ∙ table_at s.fields (λ k. totals_of (count_of s.cells) (found (slice_index_or copies leaf []) k)) f [] field
      ∙ (are.each leaf less f field).totals l has;
  slot_rows = length-map copies slots ∙ are.long;
  slot_fields = λ leaf less. ap length (row_at slots copies leaf (within leaf less))
      ∙ table_length s.fields (λ f. slot_of (found (slice_index_or copies leaf []) f));
  slots = λ leaf f less field.
      ap (λ (row : List Slot). slice_index_or row f absent) (row_at slots copies leaf (within leaf less))
      ∙ table_at s.fields (λ k. slot_of (found (slice_index_or copies leaf []) k)) f absent field
      ∙ (are.each leaf less f field).slot;
  counters = refl;
}))
  where
    totals : List LeafField → List (List ℕ)
    totals = totals_by (count_of s.cells) s.fields

    slots : List LeafField → List Slot
    slots = slots_by s.fields

    within : (leaf : ℕ) → leaf < leaf_count s → leaf < length copies
    within leaf less = subst (λ (n : ℕ). leaf < n) (sym are.long) less

-- so are parts that are those of the mesh state
pub is_state : (l : Layout) (s : Stored) (t : TreeOfBlocks) (cells : List ℕ) (count : ℕ) (copies : List (List LeafField)) (counters : List ℕ)
    → HasLayout s l → t ≡ s.tree → s.cells ≡ cells → count ≡ s.fields → AreOnLeaves s (leaf_count s) copies → counters ≡ s.counters
    → opened t cells count copies counters ≡ state_in l s
is_state l s t cells count copies counters has tree_is cells_are fields_are are tags =
    ap (λ (v : TreeOfBlocks). opened v cells count copies counters) tree_is
    ∙ ap (λ (v : List ℕ). opened s.tree v count copies counters) (sym cells_are)
    ∙ ap (λ (n : ℕ). opened s.tree s.cells n copies counters) fields_are
    ∙ ap (λ (v : List ℕ). opened s.tree s.cells s.fields copies v) tags
    ∙ opened_is l s copies has are
