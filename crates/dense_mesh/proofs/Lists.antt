-- Meshes in lists have what the lists have, and those of what each cell gives are filled so.
use Rattle.std.proofs.Common.{◌≡◌, ℕ, ◌+◌, ◌<◌, List, [], length, map, refl, arith, ap, subst, sym, ◌∙◌}
use Rattle.std.specs.List.{slice_index_or}
use Rattle.std.proofs.lemmas.List.{get_or-map, length-map}
use Rattle.morton_order.specs.declared.space.Loc.{Loc}
use Rattle.block_tree.specs.Blocks.{TreeOfBlocks, leaves}
use Rattle.mesh_rules.specs.Sums.{table}
use Rattle.mesh_rules.specs.Mesh.{Mesh, block_size, cell_at, filled, totals_on}
use Rattle.dense_mesh.specs.Meshes.{field_list, field_lists, mesh_of, totals_in}
use Rattle.dense_mesh.specs.Laws.{FieldListsAreMeshes, ListsAreTotals}
use Rattle.dense_mesh.proofs.Tables.{table_at, table_by, table_length, table_same}

-- the lists of a leaf
abbrev on_leaf : List (List (List ℕ)) → ℕ → List (List ℕ)
on_leaf lists leaf = table (length lists) (λ f. totals_in lists f leaf)

pub lists_are_totals : ListsAreTotals
lists_are_totals t cells lists leaf f l s =
    ap (λ (v : List (List ℕ)). slice_index_or v f []) (table_at (length (leaves t)) (on_leaf lists) leaf [] l)
    ∙ table_at (length lists) (λ k. totals_in lists k leaf) f [] s

-- a leaf to answer past the end
any : Loc
any = record { level = 0; l1 = 0; l2 = 0; l3 = 0 }

-- what each cell of a leaf gives
abbrev given : Mesh → (Loc → ℕ) → Loc → List ℕ
given m each l = table (block_size m) (λ place. each (cell_at m l place))

-- the list of a field on a leaf
pub given_at : (m : Mesh) (fields : ℕ) (each : ℕ → Loc → ℕ) (f leaf : ℕ) (d : Loc) → f < fields → leaf < length m.leaves →
    totals_in (field_lists m fields each) f leaf ≡ given m (each f) (slice_index_or m.leaves leaf d)
given_at m fields each f leaf d s l =
    ap (λ (v : List (List ℕ)). slice_index_or v leaf []) (table_at fields (λ k. field_list m (each k)) f [] s)
    ∙ get_or-map (given m (each f)) m.leaves leaf d [] l

-- all fields on a leaf
all_given : (m : Mesh) (fields : ℕ) (each : ℕ → Loc → ℕ) (leaf : ℕ) → leaf < length m.leaves →
    slice_index_or (map (λ l. table fields (λ f. given m (each f) l)) m.leaves) leaf [] ≡ on_leaf (field_lists m fields each) leaf
all_given m fields each leaf l =
    let many : length (field_lists m fields each) ≡ fields = table_length fields (λ f. field_list m (each f)) in
    get_or-map (λ k. table fields (λ f. given m (each f) k)) m.leaves leaf any [] l
    ∙ table_same fields (λ f. given m (each f) (slice_index_or m.leaves leaf any)) (λ f. totals_in (field_lists m fields each) f leaf) []
    (λ f s. sym (given_at m fields each f leaf any s l))
    ∙ ap (λ n. table n (λ f. totals_in (field_lists m fields each) f leaf)) (sym many)

same_totals : (m : Mesh) (fields : ℕ) (each : ℕ → Loc → ℕ) →
    table (length m.leaves) (on_leaf (field_lists m fields each)) ≡ map (λ l. table fields (λ f. given m (each f) l)) m.leaves
same_totals m fields each = sym (table_by _ (length m.leaves) (on_leaf (field_lists m fields each)) [] (length-map m.leaves _) (λ leaf l. all_given m fields each leaf l))

pub field_lists_are_meshes : FieldListsAreMeshes
field_lists_are_meshes t cells lists fields each =
    let m : Mesh = mesh_of t cells lists in
    ap (λ (v : List (List (List ℕ))). record m { totals = v }) (same_totals m fields each)
