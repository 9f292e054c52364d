-- Lists that have on each leaf what each cell gives.
use Rattle.std.proofs.Common.{◌≡◌, ℕ, ◌<◌, List, [], length, arith, sym, ◌∙◌}
use Rattle.std.specs.List.{slice_index_or}
use Rattle.std.proofs.lemmas.List.{get_or-map, length-map}
use Rattle.std.proofs.lemmas.List.{ext_get_or}
use Rattle.morton_order.specs.declared.space.Loc.{Loc}
use Rattle.mesh_rules.specs.Sums.{table}
use Rattle.mesh_rules.specs.Mesh.{Mesh, block_size, cell_at}
use Rattle.dense_mesh.specs.Meshes.{field_list, field_lists, totals_in}
use Rattle.dense_mesh.proofs.Tables.{table_by}
use Rattle.dense_mask.proofs.Leaves.{origin, row_of}

-- a list with a leaf's row at each place is the field's list
pub is_field_list : (m : Mesh) (each : Loc → ℕ) (list : List (List ℕ)) → length list ≡ length m.leaves →
    ((leaf : ℕ) → leaf < length m.leaves → slice_index_or list leaf [] ≡ row_of m each leaf) → list ≡ field_list m each
is_field_list m each list many same =
    ext_get_or [] list (field_list m each) (many ∙ sym (length-map m.leaves (λ l. table (block_size m) (λ place. each (cell_at m l place)))))
    (λ leaf small. same leaf (omega arith) ∙ sym (get_or-map (λ l. table (block_size m) (λ place. each (cell_at m l place))) m.leaves leaf origin [] (omega arith)))

-- and such lists are those of the fields
pub are_field_lists : (m : Mesh) (fields : ℕ) (each : ℕ → Loc → ℕ) (lists : List (List (List ℕ))) → length lists ≡ fields →
    ((f : ℕ) → f < fields → length (slice_index_or lists f []) ≡ length m.leaves) →
    ((f leaf : ℕ) → f < fields → leaf < length m.leaves → totals_in lists f leaf ≡ row_of m (each f) leaf) → lists ≡ field_lists m fields each
are_field_lists m fields each lists many long same =
    table_by lists fields (λ f. field_list m (each f)) [] many (λ f some. is_field_list m (each f) (slice_index_or lists f []) (long f some) (λ leaf small. same f leaf some small))
