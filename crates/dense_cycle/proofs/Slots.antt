-- The slots of lists are those of their mask.
use Rattle.std.proofs.Common.{◌≡◌, ℕ, ◌<◌, List, [], length, ap, ◌∙◌}
use Rattle.std.specs.List.{slice_index_or}
use Rattle.mesh_rules.specs.Sums.{table}
use Rattle.mesh_rules.specs.Mask as mask
use Rattle.mesh_rules.specs.Mask.{absent, slot_at}
use Rattle.dense_mesh.specs.declared.totals.Slot.{Slot}
use Rattle.dense_mesh.specs.Masks.{mask_of, slot_in, slot_of}
use Rattle.dense_mesh.proofs.Tables.{table_at}

pub slot_of_lists : (leaves : ℕ) (lists : List (List Slot)) (leaf f : ℕ) → leaf < leaves → f < length lists → slot_at (mask_of leaves lists) leaf f ≡ slot_of (slot_in lists f leaf)
slot_of_lists leaves lists leaf f inside within =
    ap (λ (v : List mask.Slot). slice_index_or v f absent) (table_at leaves (λ k. table (length lists) (λ g. slot_of (slot_in lists g k))) leaf [] inside)
    ∙ table_at (length lists) (λ g. slot_of (slot_in lists g leaf)) f absent within
