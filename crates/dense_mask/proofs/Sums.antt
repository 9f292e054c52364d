-- The total of a field by its lists.
use Rattle.std.proofs.Common.{◌≡◌, ℕ, zero, suc, ◌-◌, ◌^◌, ◌<◌, ◌≤◌, List, [], ◌∷◌, length, refl, arith, ap, sym, ◌∙◌, sum, inl, inr}
use Rattle.std.specs.Prelude.{slice_index}
use Rattle.std.specs.List.{slice_index_or}
use Rattle.std.proofs.lemmas.List.Sums.{sum_by-cons}
use Rattle.std.proofs.lemmas.Bool.{cases_lt}
use Rattle.morton_order.specs.declared.space.Loc.{Loc}
use Rattle.block_tree.specs.Blocks.{TreeOfBlocks}
use Rattle.problem_set.specs.Settings.{Settings}
use Rattle.mesh_rules.specs.Sums.{sum_over, sum_to, table}
use Rattle.mesh_rules.specs.Fields.{field_count}
use Rattle.mesh_rules.specs.Mesh.{Mesh, block_size, cell_at, leaf_total, stored, total_of}
use Rattle.mesh_laws.proofs.Reactions.{sum_items, table_item, table_length}
use Rattle.mesh_laws.proofs.Totals.{sum_to-same}
use Rattle.block_layout.specs.declared.layout.Layout.{Layout}
use Rattle.dense_mesh.specs.Meshes.{IsMeshIn, mesh_of, totals_in}
use Rattle.dense_mask.specs.Totals.{list_total}
use Rattle.dense_mask.proofs.Leaves.{HasRow, has_row, leaf_at, origin}

-- the sum of a table
pub sum_table : (n : ℕ) (each : ℕ → ℕ) → sum (table n each) ≡ sum_to n each
sum_table n each =
    sum_items (table n each)
    ∙ ap (λ (k : ℕ). sum_to k (slice_index (table n each))) (table_length n 0 each)
    ∙ sum_to-same n (slice_index (table n each)) each (λ j small. table_item n j each small)

-- a sum over locations by a list with the sum of each
pub over_lists : (xs : List Loc) (lists : List (List ℕ)) (each : Loc → ℕ) → length lists ≡ length xs →
    ((i : ℕ) → i < length xs → each (slice_index_or xs i origin) ≡ sum (slice_index_or lists i [])) → sum_over xs each ≡ list_total lists
over_lists [] [] each many same = refl
over_lists [] (y ∷ ys) each many same = absurd (omega arith)
over_lists (x ∷ xs) [] each many same = absurd (omega arith)
over_lists (x ∷ xs) (y ∷ ys) each many same =
    let a = same 0 (omega arith) in
    let b = over_lists xs ys each (omega arith) (λ i small. same (suc i) (omega arith)) in
    let c = sum_by-cons (λ (cells : List ℕ). sum cells) y ys in
    omega arith

-- an item of a sum
pub item_in_sum : (n f : ℕ) (each : ℕ → ℕ) → f < n → each f ≤ sum_to n each
item_in_sum zero f each small = absurd (omega arith)
item_in_sum (suc n) f each small = elim (cases_lt f n) [
  | inl before ↦ let e = item_in_sum n f each before in omega arith
  | inr here ↦ let e : f ≡ n = omega arith in let same : each f ≡ each n = ap each e in omega arith
]

-- a field's total is the sum of its lists, and small
pub record IsTotal (m : Mesh) (f : ℕ) (lists : List (List ℕ)) : Type 0 where
  pub total : total_of m f ≡ list_total lists
  pub bound : list_total lists ≤ 2 ^ 62 - 1

pub leaf_sum : (m : Mesh) (f leaf : ℕ) (cells : List ℕ) → HasRow m f leaf cells → leaf_total m f (leaf_at m leaf) ≡ sum cells
leaf_sum m f leaf cells has = sym (sum_table (block_size m) (λ place. stored m f (cell_at m (leaf_at m leaf) place))) ∙ ap (λ (v : List ℕ). sum v) has.row

pub is_total : (p : Settings) (t : TreeOfBlocks) (l : Layout) (lists : List (List (List ℕ))) → IsMeshIn p t l lists → (f : ℕ) → f < field_count p →
    IsTotal (mesh_of t p.cells lists) f (slice_index_or lists f [])
is_total p t l lists is f some =
    let m : Mesh = mesh_of t p.cells lists in
    let total : total_of m f ≡ list_total (slice_index_or lists f []) =
    over_lists m.leaves (slice_index_or lists f []) (leaf_total m f) (is.leaf_lists f some)
    (λ leaf small. leaf_sum m f leaf (totals_in lists f leaf) (has_row p t l lists is f leaf some small)) in
    record { total = total; bound = let e = item_in_sum (field_count p) f (total_of m) some in let b = is.bound in omega arith }
