-- On how many blocks a field is kept.
use Rattle.std.proofs.Common.{ℕ, ◌≤◌, List, length, arith}
use Rattle.std.specs.List.{slice_index_or}
use Rattle.mesh_rules.specs.Mask as mask
use Rattle.mesh_rules.specs.Mask.{absent, blocks_with}
use Rattle.dense_mesh.specs.declared.totals.Slot.{Slot}
use Rattle.dense_mesh.specs.Masks.{mask_of, slot_in, slot_of}
use Rattle.dense_mesh.proofs.Tables.{table_length}
use Rattle.std.proofs.lemmas.List.Sums.{count_by-le-length}
use Rattle.mesh_rules.specs.Sums.{table}

-- no more blocks than leaves
pub few_blocks : (leaves : ℕ) (lists : List (List Slot)) (f : ℕ) → blocks_with (mask_of leaves lists) f ≤ leaves
few_blocks leaves lists f =
    let le = count_by-le-length (λ (slots : List mask.Slot). (slice_index_or slots f absent).kept) (mask_of leaves lists) in
    omega (arith, le, table_length leaves (λ leaf. table (length lists) (λ g. slot_of (slot_in lists g leaf))))
